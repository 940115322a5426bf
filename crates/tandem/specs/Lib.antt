-- What the contracts of this crate cite.
pub mod Deps
pub mod Visited
