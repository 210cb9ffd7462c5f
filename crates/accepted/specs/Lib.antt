pub mod Read
pub mod Writing
pub mod Sound
