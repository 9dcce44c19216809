-- The definitions of lists, lower ones first.
pub mod Pick
pub mod Limits
pub mod Refusal
pub mod ValueType
pub mod Field
pub mod Order
pub mod Shared
pub mod Record
pub mod Check
pub mod Version
pub mod PointRead
pub mod Private
