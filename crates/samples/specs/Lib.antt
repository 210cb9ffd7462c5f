pub mod Layout
pub mod Copy
pub mod Given
pub mod Inner
