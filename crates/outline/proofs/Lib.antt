-- The proofs. The bytes of an area, field by field (Bytes), and what the code of a step has to show (Taken, Answers). That the steps of a good polygon write it
-- (Goes, Writes) and are of the functions' types (Typed); what an accepted step changes (Frame) and leaves (Sound); that steps which are accepted to their end are those
-- of a good polygon (Back); that writer and reader undo each other (RoundTrip); and all this of calls of the functions (Calls).
pub mod Bytes
pub mod Taken
pub mod Answers
pub mod Goes
pub mod Writes
pub mod Typed
pub mod Frame
pub mod Sound
pub mod Back
pub mod RoundTrip
pub mod Calls
