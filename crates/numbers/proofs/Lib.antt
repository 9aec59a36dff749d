-- The proofs: what a step leaves, in numbers (Kept); what is put into a lent list (Lent); columns in numbers, one by one (Entries); calls of
-- the writer, one after the other (Calls); null points (Nulls).
pub mod Kept
pub mod Lent
pub mod Entries
pub mod Calls
pub mod Nulls
