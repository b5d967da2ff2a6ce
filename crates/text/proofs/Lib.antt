-- What the proofs of both services cite.
pub mod Backless
pub mod Scanning
pub mod Storing
