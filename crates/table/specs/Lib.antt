pub mod Found
pub mod Ordered
pub mod Few
