pub mod Place
pub mod Ahead
pub mod Frames
pub mod Inner
