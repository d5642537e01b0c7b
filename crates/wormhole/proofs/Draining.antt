-- That a mesh drains. What the machine is promised of routing is a network; one packet's channels and flits are told over any network, and so is
-- what each step does to memory. The real mesh is such a network, and the tests of the step rules ask for its steps; then whole calls, lists of
-- calls and the demand.
mod Picks
mod Network
-- one packet, over functions from channels to numbers
mod Sums
mod Loads
mod Shape
mod Fill
-- memory, step by step
mod Frames
mod Invariant
mod Stepping
mod Releasing
mod Moving
mod Climbing
mod Emptying
-- the real mesh
mod Meshes
mod Reading
mod Ranging
-- calls
pub mod Lists
pub mod Answers
mod Accounts
pub mod Drained
pub mod Example
