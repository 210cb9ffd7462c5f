pub mod Due
pub mod File
pub mod Inner
