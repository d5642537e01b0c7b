-- What the sheet of a list promises, in this order: how a list drains, text, and the call; and what is proved of the moves that it prints.
pub mod Sweeps
pub mod Text
pub mod Calls
pub mod Moves
pub mod Coded
