pub mod Answers
pub mod BadEnds
pub mod Bytes
pub mod Ends
pub mod Files
pub mod Follows
pub mod Parts
