pub mod Answering
pub mod Turning
pub mod Agreeing
pub mod Turned
pub mod Told
pub mod Shows
pub mod Sharings
pub mod Outputs
