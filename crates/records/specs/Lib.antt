pub mod Bodies
pub mod Format
pub mod Heads
pub mod Texts
