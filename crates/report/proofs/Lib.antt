-- The proofs that belong to no one function, each after those that it rests on. Those up to Reporting are for the code; what follows is of a list
-- that drained.
mod Counting
mod Totals
mod Reaching
mod Tracing
mod Trying
mod Turning
mod Sweeping
mod Loading
mod Settling
mod Spelling
mod Lengths
pub mod Reporting
mod Complete
mod Ending
pub mod Promises
