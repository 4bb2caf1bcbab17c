-- Read Commands, whose Outcome is the promise of `top`: what `pipe` does is that of mf_lines and mf_transcript, what `lint` does is in
-- Lint. SharedOutcome of Shared is the promise of `top_shared`: what `rehearse` does is in mf_rehearse.
pub mod Lint
pub mod Commands
pub mod Shared
