-- What the proofs of several functions cite.
pub mod Spelling
pub mod Pages
pub mod Answered
