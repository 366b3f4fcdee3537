mod Chains
mod Heads
mod Rising
