pub mod Reason
pub mod Metrics
pub mod Counting
