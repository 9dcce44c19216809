-- The definitions of compaction, in the order in which they are read; the last is cited by private contracts and proofs only.
pub mod Fate
pub mod Compact
pub mod Filter
pub mod Compaction
pub mod Calls
pub mod Read
pub mod Turn
