pub mod Sums
pub mod State
pub mod Good
pub mod GoodParts
