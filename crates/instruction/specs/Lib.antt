-- what printing a value needs of its bytes
pub mod Printing
-- what reading a variable needs of the table
pub mod Readable
