-- The proofs: sequences by their first byte, names and texts past bytes that are fine, what is found against what a rule refuses, and texts by their bytes.
pub mod Sequences
pub mod Runs
pub mod Finds
pub mod Windows
