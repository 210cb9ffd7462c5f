pub mod Texts
pub mod Numbers
pub mod Theorems
pub mod Shown
pub mod Pieces
