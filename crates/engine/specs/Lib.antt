pub mod Limits
pub mod Views
pub mod Changes
