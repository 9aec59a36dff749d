-- What the contracts cite beside the wire's definition: what is done with a field, what a walk over some of them is held to, and a count.
pub mod Task
pub mod Walks
pub mod Tallies
