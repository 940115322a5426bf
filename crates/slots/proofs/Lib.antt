-- The laws that callers cite.
pub mod Tables
pub mod Decision
pub mod Numbered
pub mod Places
pub mod Packing
pub mod Laws
pub mod Once
