-- What the contracts of the C interface for areas cite beside numbers/specs: a ring and a vertex in a lent list (Listed), the writer's state as numbers (Stored).
-- `Calls`: calls of the writer, one after the other.
pub mod Listed
pub mod Stored
pub mod Calls
