-- What the proofs of several functions cite.
pub mod Stored
pub mod ByCell
pub mod Diagonal
pub mod Following
pub mod Same
