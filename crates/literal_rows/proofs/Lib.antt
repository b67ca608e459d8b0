-- every row, by computing
pub mod Rows
-- the run of the law about new files
pub mod NewFileRun
