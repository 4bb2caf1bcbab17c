use Rattle.std.proofs.Common.{◌≡◌, []}
use Rattle.serde_json.specs.View.{members_view}
use Rattle.mf_wire.specs.Fields as fields
use Rattle.mf_wire.proofs.fields.arguments.Given as goal

-- the members that are left give what all members give, from the arguments so far on
abbrev pub invariant-loop-name : goal.invariant-loop-name
invariant-loop-name l =
    (goal.iterator-loop-name).can_next l.name-iterator ×
    (goal.iterator-loop-name).is_finite l.name-iterator ×
    (fields.arguments_from (members_view l.members.entries) [] ≡ fields.arguments_from (members_view l.name-iterator) l.arguments)
