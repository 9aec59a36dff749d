-- The proofs. That a shown value, written again, is the same value (Again).
pub mod Again
