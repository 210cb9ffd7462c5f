pub mod Marked
pub mod Allowed
pub mod Totals
