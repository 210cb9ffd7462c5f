pub mod Steps
pub mod Appended
pub mod Parts
pub mod Calls
pub mod Held
