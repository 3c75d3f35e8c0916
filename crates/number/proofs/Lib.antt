pub mod Groups
pub mod Spacing
pub mod Folds
