-- The laws of bundles, lower ones first.
pub mod Starts
pub mod Looking
pub mod Walks
pub mod Fences
pub mod Spans
pub mod Judging
pub mod Filling
pub mod Finds
pub mod Unique
