-- `Runs`: a whole row is the run of its steps. The others are for the functions: what two numbers say of a cell (Values), how they come, two to a cell (Pairs), what is sure of a cell and what it is answered (Sures), the steps of a
-- row in turn (Answers), and what they write (Halves, Lays).
pub mod Runs
pub mod Values
pub mod Pairs
pub mod Sures
pub mod Answers
pub mod Halves
pub mod Lays
