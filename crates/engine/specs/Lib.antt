pub mod Concessions
pub mod Rules
