-- The laws that callers cite, and those that several proofs share.
pub mod Opened
pub mod Behind
pub mod Every
pub mod Steps
pub mod Laws
pub mod AtOnce
