-- Laws of this crate.
pub mod Opened
pub mod Reading
pub mod Scans
pub mod Lengths
pub mod Arenas
pub mod Numbers
pub mod Records
pub mod Carries
pub mod AtOnce
pub mod Once
