pub mod Cause
pub mod Item
pub mod Step
pub mod Items
pub mod Reading
pub mod Part
pub mod IsStep
pub mod Rows
