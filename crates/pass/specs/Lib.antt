-- What the contracts cite beside the wire's definition: where a thing that is passed ends.
pub mod Passes
