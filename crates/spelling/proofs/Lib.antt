-- What the proofs of several functions cite.
pub mod Parts
pub mod Putting
