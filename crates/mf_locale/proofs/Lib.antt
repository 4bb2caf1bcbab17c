pub mod Parts
pub mod Truncations
pub mod Read
pub mod Chains
