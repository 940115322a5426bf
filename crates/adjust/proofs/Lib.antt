-- The laws of the passes in place, what they leave of an accepted module, and that each contract allows one outcome.
pub mod Bodies
pub mod Stores
pub mod Passes
pub mod Laws
