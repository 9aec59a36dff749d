-- The proofs. From the bottom: what a task has met after some fields, the walk over each way to make a format, loops, values and parameters,
-- tables and responses; the sizes of types, fields that are only counted, rows of one size.
pub mod Visits
pub mod Tours
pub mod Rounds
pub mod Values
pub mod Tables
pub mod Widths
pub mod Counts
pub mod Evens
