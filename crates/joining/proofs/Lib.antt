-- What the proofs of several functions cite.
pub mod Shifting
pub mod Leading
pub mod Joined
