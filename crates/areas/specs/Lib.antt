-- What the contracts cite beside the definition of a body: what is asked of it and told, and what the passes over it are held to.
pub mod Answers
pub mod Passes
