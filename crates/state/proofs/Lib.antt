pub mod Laws
pub mod Summed
pub mod Agree
pub mod Slots
pub mod Tests
pub mod Powers
pub mod GoodParts
