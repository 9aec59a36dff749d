-- The proofs: answers packed into a number.
pub mod Packs
