-- Document 01 as definitions, one file a section, in its order.
pub mod Lists
pub mod Areas
pub mod Slots
pub mod References
pub mod Roots
pub mod Order
pub mod Sweep
pub mod Refusals
pub mod Faults
pub mod Numbering
pub mod Records
pub mod Outcome
pub mod MapEntries
