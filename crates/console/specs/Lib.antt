-- What a line does to a board, and which text answers it.
pub mod Console
