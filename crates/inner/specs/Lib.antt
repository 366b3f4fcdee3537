pub mod Meant
pub mod Changes
pub mod Kinds
pub mod Serving
