pub mod Longer
pub mod Passing
pub mod Refusing
pub mod Laid
pub mod ConvertedJournals
pub mod Cases
