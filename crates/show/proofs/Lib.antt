-- The proofs: floats, ranges, bodies, that a shown value keeps every bit, the bits of a float, and parts.
pub mod Floats
pub mod Range
pub mod Bodies
pub mod Values
pub mod Kept
pub mod FloatBits
pub mod Parts
