pub mod Ends
pub mod Findings
pub mod Options
pub mod Program
pub mod Reports
pub mod Text
pub mod Traced
pub mod inside
