-- The proofs that belong to no one function, each after those that it rests on. Promises is what other crates may cite.
mod Every
mod Tests
mod Axis
mod Shortest
mod Codes
mod Least
mod Unless
mod Nodes
mod Closed
mod Exact
mod Outputs
mod House
mod Rises
mod Falls
mod Returns
mod Listed
mod Accepts
mod Marked
mod Open
pub mod Promises
