-- The paper's sample rows, and a filter's.
pub mod Ask
pub mod Table
