pub mod Faults
pub mod FirstNo
pub mod Kinds
pub mod Left
pub mod Questions
pub mod Rows
pub mod Sheets
