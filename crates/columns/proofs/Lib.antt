-- The proofs. What is written of columns (Metadata); what is put apart (Apart); what a survey finds
-- (Surveys); what is written around them (Heads); what the walk that writes them leaves (Pages); and that both are the step of the definition (Opens).
pub mod Metadata
pub mod Apart
pub mod Surveys
pub mod Heads
pub mod Pages
pub mod Opens
