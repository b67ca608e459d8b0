-- A good area as facts.
pub mod GoodRecords
pub mod GoodLaws
pub mod DistinctIds
