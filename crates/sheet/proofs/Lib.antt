pub mod Padded
pub mod Stacks
pub mod Exactness
pub mod Standing
pub mod Known
pub mod Balances
