-- What the contracts cite: which of field list and refusal is printed, a number as digits, and a line as text.
pub mod Digits
pub mod Listing
pub mod Text
