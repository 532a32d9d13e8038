pub mod Indexed
pub mod Walks
pub mod Partners
pub mod Triples
pub mod AllTriples
pub mod Walked
