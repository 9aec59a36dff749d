-- The proofs: what answers say, vertices by their size alone, the head and a ring, all rings, the whole body, and where the parts of a body stand.
pub mod Answers
pub mod Runs
pub mod Heads
pub mod Rounds
pub mod Surveys
pub mod Stands
pub mod Listed
pub mod Once
