pub mod Numbers
pub mod Values
pub mod Theorems
pub mod SixKinds
pub mod Promises
pub mod Example
