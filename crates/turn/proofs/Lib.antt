-- The proofs: one thing more is changed in its place; a part reversed; vertices in reverse order; a ring; the holes of a body.
pub mod Changes
pub mod Reversals
pub mod Turns
