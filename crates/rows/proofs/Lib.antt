-- The proofs. Where the steps that close fill (Closings), and what a cell asks and reaches (Cells).
pub mod Closings
pub mod Cells
