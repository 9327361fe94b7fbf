pub mod Marked
pub mod Standing
pub mod History
pub mod EveryHistory
