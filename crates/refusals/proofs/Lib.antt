-- What the proofs of several crates cite.
pub mod Answered
