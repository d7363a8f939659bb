pub mod Reports
pub mod Uploads
pub mod inside
