pub mod Positive
pub mod Rows
mod Numerals
mod Fronts
mod Known
mod NoKind
mod ReadBack
mod Splits
mod OneWay
