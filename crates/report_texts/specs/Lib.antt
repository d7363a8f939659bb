pub mod Forms
pub mod FormLaws
pub mod Numbers
pub mod OverHistory
pub mod Report
pub mod inside
