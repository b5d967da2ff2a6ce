-- The proof that no two outcomes fit.
pub mod Meant
pub mod OneOutcome
