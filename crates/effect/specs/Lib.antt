pub mod Says
pub mod Ready
pub mod Effect
pub mod IsEffect
