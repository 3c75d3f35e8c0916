pub mod Numbers
pub mod Spaces
pub mod Signs
pub mod Examples
