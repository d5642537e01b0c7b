-- The proofs that belong to no one function, each after those that it rests on. Offering and Owing tie a list that was read to demand 3;
-- RoundTrip is reading and then writing.
pub mod Heads
mod Alive
pub mod Putting
pub mod Refusals
pub mod Storing
mod Whole
pub mod Allowed
mod Filling
pub mod Offering
pub mod Owing
pub mod RoundTrip
