-- The words of the commands whose callers share a log, and what each does.
use Rattle.std.specs.Prelude.{◌≡◌, ◌&&◌, ℕ, List, [], ◌∷◌, codes, encode_utf8_all, length, nat_lt, Option, Some, None, option_map, if◌then◌else◌}
use Rattle.std.specs.Str.{bytes_eq}
use Rattle.mf_io.specs.declared.statuses.Status.{Status}
use Rattle.mf_io.specs.declared.statuses.Status.TheVariants as status
use Rattle.mf_rehearse.specs.Rehearsals.{rehearse_caps, Rehearses}
use Rattle.mf2d.specs.declared.shared.SharedCommand.{SharedCommand}
use Rattle.mf2d.specs.declared.shared.SharedCommand.TheVariants.{Rehearse, Serve}
use Rattle.mf_service.specs.Services.{ServesHub}
use Rattle.mf2d.specs.Commands.{count_of}

-- the command that a word alone spells
abbrev pub shared_command_named : List ℕ → Option SharedCommand
shared_command_named word = if bytes_eq word (codes "rehearse") then Some Rehearse else None

-- the command that a word and the bytes of an address, which isn't empty, and of a limit spell
abbrev pub shared_command_limited : List ℕ → List ℕ → List ℕ → Option SharedCommand
shared_command_limited word address limit =
    if bytes_eq word (codes "serve") && nat_lt 0 (length address) then option_map Serve (count_of 1000000 limit) else None

-- the command that the words after the program's name spell
abbrev pub shared_command_of : List (List ℕ) → Option SharedCommand
shared_command_of [] = None
shared_command_of (word ∷ []) = shared_command_named word
shared_command_of (word ∷ address ∷ []) = None
shared_command_of (word ∷ address ∷ limit ∷ []) = shared_command_limited word (encode_utf8_all address) (encode_utf8_all limit)
shared_command_of (word ∷ address ∷ limit ∷ more ∷ words) = None

-- what a command does, by the status that it ends with; no command, which is status 1, reads and writes nothing
abbrev pub SharedOutcome : Option SharedCommand → Status → (Unread Unwritten Unlistened : Type 0)
    → (left left' taken taken' : Option (List ℕ)) → (links links' : Option ℕ) → Type 0
SharedOutcome (Some Rehearse) status Unread Unwritten Unlistened left left' taken taken' links links' =
    Rehearses rehearse_caps left left' taken taken' status Unwritten × Unlistened
SharedOutcome (Some (Serve limit)) status Unread Unwritten Unlistened left left' taken taken' links links' =
    ServesHub limit links links' taken taken' status Unlistened Unwritten × Unread
SharedOutcome None ended Unread Unwritten Unlistened left left' taken taken' links links' =
    (ended ≡ status.Usage) × Unread × Unwritten × Unlistened
