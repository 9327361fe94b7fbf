pub mod Judged
pub mod Stops
pub mod Copied
pub mod Table
pub mod Full
pub mod Told
