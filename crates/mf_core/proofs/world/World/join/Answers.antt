use Rattle.std.proofs.Common.{◌∙◌, ◌+◌, ◌≡◌, ◌++◌, [], ◌∷◌, List, Option, None, ℕ, ap, sym, arith, length, length-append}
use Rattle.std.specs.Prelude.{◌==◌}
use Rattle.std.proofs.lemmas.Bool.{eqb-true}
use Rattle.mf_edition.specs.Edition.{newest_edition}
use Rattle.mf_core.specs.Kept.{board_world}
use Rattle.mf_core.specs.Running.{ticket_at, world_of}
use Rattle.mf_core.specs.Worlds.{World}
use Rattle.mf_core.proofs.Puts.{not_true}
use Rattle.mf_core.proofs.Wholes.{joined_tickets, whole_same}
use Rattle.mf_core.proofs.world.World.join.Goals as goal

pub returns-in_err-join-clause-whole : goal.returns-in_err-join-clause-whole
returns-in_err-join-clause-whole c =
    let same = whole_same c.args.self.now c.join.new.self c.requires.whole c.in_err-join.ensures.kept c.in_err-join.ensures.does.1 in
    record {
      kept = same.kept;
      newest = same.newest;
      many = ap length c.reserve.ensures.items ∙ same.many;
      tickets = λ n. ap (λ l. ticket_at l n) c.reserve.ensures.items ∙ same.tickets n;
    }

pub returns-clause-whole : goal.returns-clause-whole
returns-clause-whole c =
    let w : World = world_of c.args.self.now in
    let v : World = board_world c.join.new.self in
    let step = c.in_ok-join.ensures.does in
    let next = eqb-true c.args.caller w.next (not_true (c.args.caller == w.next) c.requires.yours) in
    let items : c.push_reserved.new.self.items ≡ c.args.self.now.tickets.items ++ None ∷ [] =
    c.push_reserved.ensures.items ∙ ap (λ (l : List (Option (ℕ × ℕ))). l ++ None ∷ []) c.reserve.ensures.items in
    let longer = ap length items ∙ length-append c.args.self.now.tickets.items (None ∷ []) in
    let more : v.next ≡ w.next + 1 = ap (λ (x : World). x.next) step.changes in
    let many = c.requires.whole.many in
    record {
      kept = c.in_ok-join.ensures.kept;
      newest = c.requires.whole.newest ∙ ap (λ (x : World). newest_edition x.log) (sym step.changes);
      many = omega arith;
      tickets = joined_tickets w v c.args.caller c.in_ok-join.field-0 c.args.self.now.tickets.items c.push_reserved.new.self.items
          c.requires.whole.kept.valid c.requires.yours next step c.requires.whole.tickets items;
    }
