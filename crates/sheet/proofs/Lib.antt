pub mod Accepted
pub mod Chunks
pub mod FirstNo
pub mod Left
pub mod Pairs
pub mod Search
pub mod Turns
