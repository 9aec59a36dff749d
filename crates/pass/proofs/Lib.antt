-- The proofs. From the bottom: how each way to make a format is passed, loops, and the formats that the functions pass.
pub mod Parts
pub mod Rounds
pub mod Values
