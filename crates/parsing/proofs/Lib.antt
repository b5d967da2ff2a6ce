-- What the proofs of several functions cite.
pub mod Places
pub mod Numbers
pub mod Heads
pub mod Whole
pub mod Parts
pub mod Writing
pub mod Stars
