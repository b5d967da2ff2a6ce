-- What the proofs of several functions cite.
pub mod Moving
