-- What the contracts cite beside the wire's definition: what a quick answer promises.
pub mod Past
