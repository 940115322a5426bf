-- What the contracts cite besides document 01's definitions.
pub mod Answers
pub mod FromSet
