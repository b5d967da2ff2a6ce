-- What the proofs of several functions cite.
pub mod Fields
pub mod Counting
pub mod Order
pub mod Scan
