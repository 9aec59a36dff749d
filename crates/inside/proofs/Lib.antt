-- The proofs. The walks over a ring and a body, what a tour over a body comes to, and what the answers say together.
pub mod Walks
pub mod Bodies
pub mod Together
