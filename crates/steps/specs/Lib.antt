-- `Steps` and `Logins` are what the contracts of the writer cite; `State`, `Next`, `Plans` and `Arguments` what those are made of.
-- `Spells` and `Writings`: which steps and logins a message spells. `Cases`: worked cases.
pub mod Steps
pub mod Logins
pub mod State
pub mod Next
pub mod Plans
pub mod Arguments
pub mod Spells
pub mod Writings
pub mod Cases
