-- The proofs. From the bottom: what a task does with one field, the kinds 1 to 3, walks over unwanted fields by a count of them; whole messages;
-- and that no two answers tell the same.
pub mod Acts
pub mod Contents
pub mod Calms
pub mod Messages
pub mod Once
