-- What a field list has for one thing, and when an answer is what the bytes there say.
pub mod Listed
