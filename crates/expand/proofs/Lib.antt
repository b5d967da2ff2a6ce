-- What the proofs of several functions cite.
pub mod Stepping
pub mod Sized
pub mod Parts
pub mod Writing
pub mod SizeGrounds
