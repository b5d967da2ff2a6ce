pub mod Code
pub mod Kinds
