mod Figured
mod Applied
mod Rounded
