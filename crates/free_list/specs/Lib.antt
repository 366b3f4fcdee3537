pub mod Lent
pub mod Chain
pub mod Once
pub mod Calls
pub mod Places
pub mod Bounds
