-- The definitions of reading, in the order in which they are read; the last only private contracts and proofs cite.
pub mod Bounds
pub mod Entries
pub mod Demand
pub mod Mvcc
pub mod Cursor
pub mod Start
pub mod Parts
pub mod Prefix
pub mod TwoEnds
pub mod Calls
pub mod Private
