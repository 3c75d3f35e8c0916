pub mod Rising
pub mod Places
pub mod Finding
pub mod Inserting
pub mod Removing
pub mod Revising
pub mod Floors
