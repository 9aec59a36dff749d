-- The theorems about the steps. What comes of a plan, whatever its state is (Plans); a buffer that is written from the front; steps that go, one after the other; that the steps of a good
-- message write it (Call, Reply, Logins, and all in Writes) and are of the functions' types (Typed); what an accepted step changes (Frame) and leaves (Sound); that steps which
-- are accepted to their end are those of a good message (CallBack, ReplyBack, LoginsBack); that writer and reader undo each other
-- (RoundTrip).
pub mod Plans
pub mod Buffers
pub mod Goes
pub mod Faults
pub mod Params
pub mod Call
pub mod Rows
pub mod Tables
pub mod Reply
pub mod Logins
pub mod Writes
pub mod Typed
pub mod Accepted
pub mod Frame
pub mod Back
pub mod CallBack
pub mod ReplyBack
pub mod LoginsBack
pub mod RoundTrip
pub mod Sound
