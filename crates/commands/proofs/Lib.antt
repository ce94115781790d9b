mod Parting
mod Written
mod Fronts
mod Named
