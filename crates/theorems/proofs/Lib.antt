-- The proofs of the demands.
pub mod Shape
pub mod Saying
pub mod Labelled
pub mod Determined
pub mod OneFilling
pub mod Why
pub mod Agreement
pub mod Paper
pub mod Expander
pub mod Text
pub mod Demands
