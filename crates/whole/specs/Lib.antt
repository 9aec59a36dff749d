-- `Rows` is what the contract of the step cites. `Asked` and `Laid` are for the functions inside: what the steps of a row are answered, and what they write.
pub mod Rows
pub mod Asked
pub mod Laid
