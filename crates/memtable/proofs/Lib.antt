-- The laws of the memtable: first those that its functions cite, then the theorems, each resting on those above it.
pub mod Moving
pub mod Surveying
pub mod Placing
pub mod Judging
pub mod Splicing
pub mod Inserting
pub mod Getting
pub mod Answering
pub mod Trying
pub mod Change
pub mod After
pub mod Kept
pub mod ReadBack
pub mod Calls
pub mod Unique
