pub mod Bests
pub mod Copies
pub mod Lents
pub mod Made
pub mod Tables
pub mod Tolds
