pub mod Decides
pub mod Examples
pub mod Lookup
