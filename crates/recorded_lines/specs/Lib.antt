pub mod Texts
pub mod Unread
pub mod inside
