pub mod Moved
pub mod Ordered
