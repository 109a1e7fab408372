pub mod Acceptance
pub mod Refusing
pub mod Steps
pub mod Unread
pub mod UnreadExample
pub mod EveryReading
