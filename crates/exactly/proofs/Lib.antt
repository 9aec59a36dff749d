-- The proofs: the entries of one thing alone in a field list (Alone), what the bytes at them say (Says), cells (Exactly), parameters and elements of arrays (Arguments), and which points
-- are null (Nulls).
pub mod Alone
pub mod Says
pub mod Exactly
pub mod Arguments
pub mod Nulls
