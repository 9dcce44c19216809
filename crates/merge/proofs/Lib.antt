-- The laws of merging, lower ones first.
pub mod Replies
pub mod Order
pub mod Lists
pub mod Turn
pub mod Numbered
pub mod Sorted
pub mod Gives
pub mod Lead
pub mod Choosing
pub mod Shrinks
pub mod Followers
pub mod Heads
pub mod Merging
pub mod Looking
pub mod Unique
