-- What an answer's words stand for, and that each contract of the boundary allows one outcome.
pub mod Close
pub mod Once
