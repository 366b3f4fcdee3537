pub mod Reasoning
mod Turns
