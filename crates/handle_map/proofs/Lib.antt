-- The laws of live words, and that each contract allows one outcome.
pub mod Live
pub mod Once
pub mod Steps
