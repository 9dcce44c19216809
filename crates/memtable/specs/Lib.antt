-- The definitions of memtables, in the order in which they are read; the last only private contracts cite.
pub mod Change
pub mod Figures
pub mod Image
pub mod Insert
pub mod Get
pub mod Answers
pub mod Calls
pub mod Private
