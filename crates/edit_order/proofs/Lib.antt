-- What the proofs of several functions use.
pub mod Bools
pub mod EditSlots
pub mod EditFitting
pub mod EditOrder
pub mod EditSorted
pub mod EditFolding
pub mod EditPassing
pub mod EditRising
pub mod EditCounted
pub mod EditPieces
pub mod EditNarrowing
pub mod EditMerging
pub mod EditMerged
pub mod EditMarks
pub mod EditRenewing
pub mod EditAsked
