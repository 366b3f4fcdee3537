pub mod Rows
mod FirstClear
