-- What the contracts of the protocol cite.
pub mod Counts
pub mod Kept
pub mod Records
pub mod Words
