-- The definitions of the border, crate by crate.
pub mod Outcome
pub mod Lists
pub mod Tables
pub mod Figures
pub mod Reads
pub mod Compactions
pub mod Edition
