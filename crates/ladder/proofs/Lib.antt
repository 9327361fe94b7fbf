pub mod Roots
pub mod Table
