pub mod Buffer
pub mod Laid
pub mod Lists
