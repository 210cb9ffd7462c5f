pub mod Samples
pub mod Grown
