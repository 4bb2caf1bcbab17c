use Rattle.std.proofs.Common.{◌≡◌, ℕ, ◌≤◌, length}
use Rattle.serde_json.specs.Data.{Members, no_members}
use Rattle.mf_requests.specs.Sentences.{members_read, Shows}
use Rattle.mf_requests.proofs.sentence.read_members.Given as goal

-- the members so far show what was read so far, and with those that are left they are all
abbrev pub invariant-members : goal.invariant-members
invariant-members l =
    (found : Members) × (turns : ℕ) × (length l.reader ≤ turns)
    × (members_read 126 (length l.initial.reader) no_members l.initial.reader ≡ members_read 126 turns found l.reader)
    × Shows l.sentence found

abbrev pub decreases-members : goal.decreases-members
decreases-members l = length l.reader
