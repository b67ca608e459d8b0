-- bytes at their offsets, calls one after another
pub mod Calls
-- the run
pub mod Run
-- one byte changed
pub mod Goodness
-- K1 to K11 on bytes
pub mod Programs
-- a log erased and created again
pub mod NewFiles
-- the law about new files is not empty
pub mod NewFileExample
