-- The proofs. What a buffer is after a part of it was lent, and after writes one after the other (Laws).
pub mod Laws
