pub mod Numbers
pub mod Splice
pub mod Values
