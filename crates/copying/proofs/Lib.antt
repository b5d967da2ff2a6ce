-- What the proofs of several functions cite, and of the crates above.
pub mod Appending
pub mod Storing
