-- The proofs. What a response's fields before its table count are, part by part (Openings), and where the steps that close fill (Closings).
pub mod Openings
pub mod Closings
