pub mod Answers
pub mod BadBytes
pub mod BadEnds
pub mod BadParts
pub mod Bytes
pub mod Ends
pub mod Shows
