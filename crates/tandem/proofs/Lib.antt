-- The laws that callers cite, and those that several proofs share.
pub mod Filling
pub mod Turns
pub mod Laws
pub mod Once
