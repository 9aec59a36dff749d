-- The proofs. What the logins write, and how long it is (Parts).
pub mod Parts
