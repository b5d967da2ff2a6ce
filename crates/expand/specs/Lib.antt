pub mod Steps
pub mod Rows
pub mod Expanding
