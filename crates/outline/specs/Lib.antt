-- `Steps` is what the contracts cite, by `Shown`; `State` is what it is made of. `Spells`: which steps a polygon spells. `Calls`: calls one after the other.
-- `Cases`: worked cases.
pub mod State
pub mod Steps
pub mod Spells
pub mod Shown
pub mod Calls
pub mod Cases
