-- Read Isolation first: the parts of a message and the marks that they get; then Joined: the text that they make.
pub mod Isolation
pub mod Joined
