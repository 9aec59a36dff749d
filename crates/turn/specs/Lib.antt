-- What the walks over rings and vertices are held to.
pub mod Turning
