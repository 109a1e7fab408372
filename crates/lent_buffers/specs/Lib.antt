pub mod Room
pub mod LentParts
