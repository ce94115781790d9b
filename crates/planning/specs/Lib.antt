-- In the order of reading: what a file asks for, what comes of planning it, and what every plan keeps.
pub mod Asked
pub mod Plans
pub mod Promise
