pub mod Made
pub mod Says
pub mod Back
pub mod Raw
pub mod Answers
