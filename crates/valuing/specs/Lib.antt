pub mod Valuing
pub mod Planned
