-- The numbers as they were before 7 was split (Before); what a refusal claims of the bytes at its place (Causes), and of what its step was given (Given).
pub mod Before
pub mod Causes
pub mod Given
