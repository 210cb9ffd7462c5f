pub mod Digits
pub mod Read
pub mod Text
pub mod Words
pub mod Lines
pub mod Characters
