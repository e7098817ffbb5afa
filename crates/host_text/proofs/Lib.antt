pub mod BytesPieces
pub mod Joined
pub mod Pieces
