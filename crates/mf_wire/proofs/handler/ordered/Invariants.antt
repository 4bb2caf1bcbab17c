use Rattle.std.proofs.Common.{◌≡◌}
use Rattle.std.specs.Option.{option_map}
use Rattle.serde_json.specs.View.{members_view}
use Rattle.mf_text.specs.Pairs.{insert_pairs}
use Rattle.mf_wire.specs.HandlerFields as fields
use Rattle.mf_wire.proofs.handler.ordered.Given as goal

-- the texts so far and those of the members that are left are those of all members
abbrev pub invariant-loop-name : goal.invariant-loop-name
invariant-loop-name l = record {
  can_next : (goal.iterator-loop-name).can_next l.name-iterator;
  is_finite : (goal.iterator-loop-name).is_finite l.name-iterator;
  same : fields.ordered_from (members_view l.members.entries)
      ≡ option_map (λ more. insert_pairs l.pairs more) (fields.pairs_from (members_view l.name-iterator));
}
