-- What a reader must believe of this crate, in the order to read it in.
pub mod Grid
pub mod Turns
pub mod Mesh
pub mod Numbers
pub mod Served
pub mod Paths
pub mod Route
pub mod Marks
pub mod Channels
pub mod House
pub mod Check
pub mod Coded
