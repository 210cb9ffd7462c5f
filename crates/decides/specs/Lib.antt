pub mod Last
pub mod Past
pub mod Link
pub mod Mark
