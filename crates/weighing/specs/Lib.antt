pub mod Lines
pub mod Pending
pub mod Running
pub mod Turns
pub mod Played
