-- Numbers by their bytes, readings that are surely fine, and rows one after another.
pub mod Numbers
pub mod Bodies
pub mod Rows
