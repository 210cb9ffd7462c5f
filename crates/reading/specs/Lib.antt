pub mod Ends
pub mod Bytes
pub mod Due
pub mod FromNew
pub mod Fullest
