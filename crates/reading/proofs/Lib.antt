pub mod KeyOrders
pub mod Numbering
pub mod Ranging
