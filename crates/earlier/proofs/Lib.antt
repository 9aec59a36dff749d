-- The proofs: what a reading of a longer table keeps, format by format (Readings); that a table had few columns (Few); and so that replies are accepted, and cards opened and made, as before (Theorems).
pub mod Readings
pub mod Few
pub mod Theorems
