pub mod Annotated
pub mod Characters
pub mod Nodes
pub mod Marks
pub mod Tested
