-- The laws. Callers cite Bridge and Once.
pub mod Sets
pub mod Behind
pub mod Counting
pub mod Visit
pub mod Bridge
pub mod Once
