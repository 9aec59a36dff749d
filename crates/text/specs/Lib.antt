-- What the contracts cite beside the wire's definition: what is found and asked of bytes, and a text by its bytes.
pub mod Shown
pub mod Windows
