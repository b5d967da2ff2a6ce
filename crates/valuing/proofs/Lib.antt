-- What the proofs of several functions cite.
pub mod Meant
pub mod Table
pub mod Children
pub mod Recursion
pub mod Moved
pub mod Tested
pub mod Reached
pub mod Tabled
pub mod Filled
