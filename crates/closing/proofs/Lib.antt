-- What the proofs of several functions cite.
pub mod Closure
pub mod Passing
pub mod Running
