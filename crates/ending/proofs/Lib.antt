pub mod Moved
pub mod Accepted
pub mod First
pub mod Copied
pub mod Theorems
pub mod Calls
pub mod Runs
pub mod Promised
