use Rattle.std.proofs.Common.{ap, ◌∙◌, refl}
use Rattle.mf_turn.specs.declared.view.View.{View}
use Rattle.mf_turn_rows.specs.declared.tally.Entry.{Entry}
use Rattle.mf_turn_rows.specs.Tallies.{account_of}
use Rattle.mf_turn_rows.proofs.Turns.{quiet, may_fix, fixed_entry, published}
use Rattle.mf_turn_rows.proofs.calls.publish.Goals as goal

pub give-requires-clause-may : goal.give-requires-clause-may
give-requires-clause-may g c = let t = c.take-tally in
    (t.result, t.ensures.taken, (quiet (account_of t.result) _ _ t.ensures.view t.ensures.teaches, c.in-Err.ensures.same))

pub raise-count-requires-clause-may : goal.raise-count-requires-clause-may
raise-count-requires-clause-may g c = let t = c.take-tally in let x = account_of t.result in
    let p = published x (account_of c.reserve.new.self) (account_of c.push.new.self) c.args.entry c.in_default.ensures.same (λ edition index. refl) c.push.ensures in
    (t.result, t.ensures.taken, may_fix x _ _ t.ensures.view t.ensures.teaches (account_of c.push.new.self) c.args.entry p.log c.requires.number c.requires.next c.in_default.ensures.few)

pub give-requires-2-clause-may : goal.give-requires-2-clause-may
give-requires-2-clause-may g c = let t = c.take-tally in let x = account_of t.result in let y = account_of c.push.new.self in
    let p = published x (account_of c.reserve.new.self) y c.args.entry c.in_default.ensures.same (λ edition index. refl) c.push.ensures in
    let is = fixed_entry x y t.new.seat.view c.raise-count.new.seat.view c.args.entry p.log (c.raise-count.ensures.fixes t.result t.ensures.taken) in
    (t.result, c.raise-count.ensures.taken ∙ t.ensures.taken, (tt, (c.args.entry, ap (λ (v : View Entry). v.raised) is, p)))
