pub mod Floored
pub mod Lists
pub mod Numbered
pub mod Telling
pub mod Totals
pub mod Tracing
