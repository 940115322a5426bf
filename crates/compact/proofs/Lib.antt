-- The laws that close the proofs of `compact` and its stages, and what the contract says besides.
pub mod Close
pub mod Marking
pub mod Numbers
pub mod Once
pub mod Rewrites
