-- What the calls of the traffic list promise, in this order: the list's bytes, and the two calls.
pub mod Lists
pub mod Calls
pub mod Coded
