pub mod Reports
pub mod Said
