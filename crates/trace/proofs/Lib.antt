-- What the proofs of several crates cite.
pub mod Fitting
pub mod Highest
