-- The definitions of merging, in the order in which they are read; the last only private contracts and proofs cite.
pub mod Placed
pub mod Merged
pub mod Merge
pub mod Plain
pub mod Reader
pub mod Private
