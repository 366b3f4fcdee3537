pub mod Texts
mod Lines
mod Readings
mod Grammar
mod Spelling
