pub mod Courses
pub mod Entities
pub mod Neighbours
pub mod Segments
