-- What the contracts of this crate cite.
pub mod Measured
pub mod Checking
