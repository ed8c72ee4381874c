pub mod Concessions
pub mod Examples
pub mod Faults
pub mod Posted
pub mod Bounds
pub mod PostedBounds
