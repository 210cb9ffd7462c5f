pub mod Splice
pub mod Numbers
pub mod Runs
