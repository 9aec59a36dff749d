-- What the contracts of the C interface cite: an answer as one number (Packed), the writer's state as numbers (Stored), columns as numbers (Entries), a value
-- and a record in a lent list (Listed, Records). `Calls`: calls of the writer, one after the other.
pub mod Packed
pub mod Stored
pub mod Entries
pub mod Listed
pub mod Records
pub mod Calls
