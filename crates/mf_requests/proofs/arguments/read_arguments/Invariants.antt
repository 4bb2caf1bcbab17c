use Rattle.std.proofs.Common.{◌≡◌, ℕ, [], Some, ◌≤◌, length}
use Rattle.serde_json.specs.Data.{Members, no_members}
use Rattle.mf_wire.specs.Fields.{arguments_from}
use Rattle.mf_requests.specs.Sentences.{members_read}
use Rattle.mf_requests.proofs.arguments.read_arguments.Given as goal

-- the members so far are the arguments so far, and with those that are left they are all
abbrev pub invariant-members : goal.invariant-members
invariant-members l =
    (found : Members) × (turns : ℕ) × (length l.reader ≤ turns) × (length l.reader ≤ length l.initial.reader)
    × ((depth : ℕ) → members_read depth (length l.initial.reader) no_members l.initial.reader ≡ members_read depth turns found l.reader)
    × (arguments_from found [] ≡ Some l.arguments)

abbrev pub decreases-members : goal.decreases-members
decreases-members l = length l.reader
