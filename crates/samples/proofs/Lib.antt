-- The sample rows computed, those of a filter's verdicts, the readings that look right and are not, and the point read of one list.
pub mod Samples
pub mod Filters
pub mod Readings
pub mod PointRead
