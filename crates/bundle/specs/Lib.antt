-- The definitions of bundles, lower ones first.
pub mod Bundle
pub mod Index
pub mod Look
pub mod Lists
pub mod Private
