-- The proofs. What the task that lists has seen and written step by step, what it says at its end, what the answers say
-- together, and how each function's answer follows.
pub mod Listing
pub mod Seen
pub mod Together
pub mod Calls
