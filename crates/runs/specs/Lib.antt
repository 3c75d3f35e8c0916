pub mod Ledger
pub mod Moving
pub mod Replies
pub mod Telling
pub mod Totals
pub mod Tracing
