-- The proofs. What the steps of an invocation write (Written), and what their tests give (Answers).
pub mod Written
pub mod Answers
