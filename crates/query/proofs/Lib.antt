-- The proofs: what each step over a message finds, the names and how they are compared, the parts, and what each question is answered with.
pub mod Walks
pub mod Ends
pub mod Names
pub mod Parts
pub mod Opened
pub mod Calls
pub mod Theorems
