pub mod Words
pub mod Listing
pub mod Entries
pub mod Hexes
pub mod Parsed
pub mod Commands
