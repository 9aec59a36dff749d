-- The proofs: what is read at a place, what a record says, that shown places hold their bytes, and that contracts decide.
pub mod Fields
pub mod Holds
pub mod Says
pub mod Records
pub mod Held
pub mod Once
