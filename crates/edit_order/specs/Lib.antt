pub mod EditSlots
pub mod EditFives
pub mod Edits
pub mod EditOrder
pub mod EditReach
pub mod EditCount
pub mod EditSort
pub mod EditMarks
