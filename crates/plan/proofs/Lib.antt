pub mod Kept
pub mod Apart
pub mod Counted
pub mod Explained
pub mod Histories
pub mod Carried
