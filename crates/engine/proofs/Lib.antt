pub mod Rising
pub mod Lists
pub mod Right
