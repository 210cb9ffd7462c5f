pub mod Laid
pub mod Writes
pub mod Numbers
pub mod Groups
pub mod Texts
