use Rattle.std.proofs.Common.{◌≡◌}
use Rattle.std.specs.Option.{option_map}
use Rattle.serde_json.specs.View.{members_view}
use Rattle.mf_text.specs.Pairs.{insert_pairs}
use Rattle.mf_wire.specs.Fields as fields
use Rattle.mf_wire.proofs.fields.messages.Given as goal

-- the messages so far and those of the members that are left are those of all members
abbrev pub invariant-loop-id : goal.invariant-loop-id
invariant-loop-id l = record {
  can_next : (goal.iterator-loop-id).can_next l.id-iterator;
  is_finite : (goal.iterator-loop-id).is_finite l.id-iterator;
  same : option_map (fields.tagged l.fn.tag) (fields.messages_from (members_view l.members.entries))
      ≡ option_map (λ more. record { tag = l.catalogue.tag; messages = insert_pairs l.catalogue.messages more }) (fields.messages_from (members_view l.id-iterator));
}
