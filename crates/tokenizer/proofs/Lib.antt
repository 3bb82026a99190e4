-- What the proofs of this crate and of those above it use.
pub mod Table
pub mod Bytes
pub mod KindTables
pub mod Runs
pub mod Ahead
pub mod SameTags
pub mod Chosen
pub mod SameKinds
pub mod SameNames
pub mod Ends
pub mod Places
pub mod Starts
pub mod Units
pub mod Spaces
pub mod Widths
-- Walks over slices of records.
pub mod Filling
pub mod Reading
pub mod Firsts
pub mod Onward
pub mod Turning
pub mod Blanks
pub mod Writing
pub mod Answering
