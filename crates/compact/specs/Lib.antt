-- What the contracts of `compact` and its stages cite.
pub mod Answer
pub mod Stages
