pub mod Folds
pub mod Checkpoints
pub mod Answering
pub mod Fronts
pub mod Stays
