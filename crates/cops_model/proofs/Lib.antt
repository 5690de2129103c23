pub mod SliceLemmas
pub mod SparedActs
