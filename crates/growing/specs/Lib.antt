pub mod Settled
pub mod Held
