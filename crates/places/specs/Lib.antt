-- What stands at a place of a list; where the things of a message stand; and the values that it has by number.
pub mod Stands
pub mod Places
pub mod Entries
