-- What was accepted, opened and made while a table could have 64 columns (Before), and what it is to be kept (Kept).
pub mod Before
pub mod Kept
