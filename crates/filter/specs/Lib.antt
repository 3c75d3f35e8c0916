pub mod Common
pub mod Restoring
