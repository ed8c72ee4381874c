pub mod Coordinators
pub mod Faults
pub mod Payments
pub mod Taken
pub mod View
