-- What only the promises of private functions use.
pub mod Passes
