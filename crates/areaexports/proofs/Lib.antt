-- The proofs: what a step leaves, in numbers (Kept); calls of the writer, one after the other (Calls).
pub mod Kept
pub mod Calls
