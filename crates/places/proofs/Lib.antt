-- The proofs. What stands at a place (Stands), and lists of that (Lists); the parts of a table (Layouts), of a message (Contents), of a response (Replies) and of
-- an invocation (Calls); the values in them (Values); the field list beside all those places (Listed); and what a reading says of its parts, for whatever bytes (Readings).
pub mod Stands
pub mod Lists
pub mod Layouts
pub mod Readings
pub mod Contents
pub mod Replies
pub mod Calls
pub mod Values
pub mod Listed
