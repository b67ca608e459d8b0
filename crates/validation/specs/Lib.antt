-- the tests of both buffers
pub mod Tests
-- the work area as the tests read it
pub mod Columns
