-- The proofs: a card's form, the loops, the search for a column of a type and name, the columns that cards are made from and opened on, what cards are good for, and why one doesn't fit.
pub mod Forms
pub mod Loops
pub mod Alike
pub mod Columns
pub mod Theorems
pub mod Reasons
