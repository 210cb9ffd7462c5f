pub mod Accepted
pub mod Runs
pub mod Written
pub mod Back
pub mod WrittenBack
pub mod Calls
pub mod Promised
pub mod Values
