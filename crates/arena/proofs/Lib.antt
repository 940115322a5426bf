-- Laws. Callers cite Elements, Marks and Once.
pub mod Counting
pub mod Digits
pub mod Elements
pub mod Marks
pub mod Once
pub mod Sets
pub mod Lent
