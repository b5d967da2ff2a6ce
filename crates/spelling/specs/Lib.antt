pub mod Spelling
pub mod Page
