-- The demands as theorems about the definitions of meaning.
pub mod Demand1
pub mod Demand2
pub mod Filling
pub mod Demand3
pub mod Why
pub mod Paper
pub mod Expander
pub mod Text
