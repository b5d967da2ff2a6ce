-- What the proofs of several functions cite.
pub mod Handing
pub mod Found
