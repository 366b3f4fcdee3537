pub mod Held
pub mod Growth
pub mod Branches
pub mod Invariant
pub mod Sheets
pub mod Checked
