-- `Entries` is what the contract of opening a table cites: the columns that a caller gives. `Walks` is for the functions of the two walks alone, and `Short` for what they build.
pub mod Entries
pub mod Short
pub mod Walks
