-- What the contracts cite beside the wire's definition: what a tour over all fields comes to, and what the walk over a message and the ways
-- past unwanted fields are held to.
pub mod Tour
pub mod Whole
pub mod Calms
