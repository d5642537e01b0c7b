-- What the calls of the wormhole machine promise, in this order: its memory, when memory is in range, the step rules, the calls; and what is
-- proved of all calls together, that a mesh drains.
pub mod Memory
pub mod Range
pub mod Steps
pub mod Calls
pub mod Drains
pub mod Coded
