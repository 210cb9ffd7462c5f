pub mod Lengths
pub mod Laws
pub mod Bound
pub mod Cases
pub mod Printed
pub mod Theorems
pub mod Promises
