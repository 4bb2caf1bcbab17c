pub mod Sizes
pub mod Taking
pub mod Grouped
pub mod Joining
pub mod Lengths
