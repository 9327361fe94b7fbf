pub mod Least
pub mod Examples
pub mod TurnsExamples
