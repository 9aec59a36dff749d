-- The proofs: counts of digits, and numbers as text.
pub mod Powers
pub mod Spelled
