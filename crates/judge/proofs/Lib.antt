-- What the proofs of several functions cite.
pub mod Answered
pub mod Words
pub mod PlaceStretch
pub mod JudgeGrounds
