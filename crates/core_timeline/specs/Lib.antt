pub mod Rising
pub mod Tree
pub mod Nodes
pub mod Sides
pub mod Middle
pub mod Led
pub mod Front
