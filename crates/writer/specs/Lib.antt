pub mod Write
pub mod Data
pub mod Records
pub mod Inner
