-- What the proofs of the rows cite.
pub mod Modal
