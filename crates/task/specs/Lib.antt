pub mod Graph
pub mod Walks
pub mod Kinds
pub mod Jobs
pub mod Following
pub mod Lawful
