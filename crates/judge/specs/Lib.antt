pub mod Read
pub mod Form
pub mod Found
