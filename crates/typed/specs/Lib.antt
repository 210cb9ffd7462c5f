pub mod Bodies
pub mod Levels
pub mod Groups
pub mod Texts
