-- Read in this order: Worlds, what a World is; Steps, what an event changes, and when it is refused; Runs, lists of events; Valid,
-- what holds of every World; Kept, the World that a board is; Boards,
-- what its calls tell; Running, the World that a running one is.
pub mod Worlds
pub mod Steps
pub mod Runs
pub mod Valid
pub mod Laws
pub mod Scripts
pub mod Kept
pub mod Boards
pub mod Running
