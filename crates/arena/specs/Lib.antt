-- What the contracts of this crate cite beside the definitions of document 01.
pub mod Lent
pub mod Elements
pub mod HandleSet
pub mod Marks
pub mod Sizes
