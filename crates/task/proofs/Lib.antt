pub mod Existing
pub mod Windows
