-- The proofs that belong to no one function, each after those that it rests on. Draining is of all calls together.
pub mod Every
mod Surveying
pub mod AnyRule
pub mod Whole
pub mod Sections
mod Emptied
mod InRange
pub mod Refusing
mod Serving
mod Leading
mod Flowing
pub mod ByKind
pub mod Published
pub mod Draining
