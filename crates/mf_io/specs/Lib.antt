-- Read in this order: Known and Faults, what a call did; Outside and Memory, the sources and sinks; Links, the listeners; Caps; Statuses.
pub mod Known
pub mod Faults
pub mod Outside
pub mod Memory
pub mod Links
pub mod Caps
pub mod Statuses
