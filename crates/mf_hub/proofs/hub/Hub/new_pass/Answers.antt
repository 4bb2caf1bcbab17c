use Rattle.std.proofs.Common.{◌∙◌, inr, ap, sym, subst}
use Rattle.mf_edition.specs.declared.change.Entry.{Entry}
use Rattle.mf_turn.specs.Acts.{caught_up, joined_with}
use Rattle.mf_turn.specs.Standing.{Standing}
use Rattle.mf_turn.specs.Taught.{Counted}
use Rattle.mf_hub.specs.Passes.{Grows, Known, PassState}
use Rattle.mf_hub.specs.Stores.{account_of, caller_of, Stored}
use Rattle.mf_hub.proofs.Growing.{grows_itself, grows_joined}
use Rattle.mf_hub.proofs.Turned.{core_same, may_same, pass_learnt, quiet, view_same}
use Rattle.mf_hub.proofs.hub.Hub.new_pass.Goals as goal

pub end-requires-clause-core : goal.end-requires-clause-core
end-requires-clause-core g c = let t = c.take-store in (t.result, t.ensures.taken, inr c.in-Ok.ensures.step)

pub end-requires-clause-may : goal.end-requires-clause-may
end-requires-clause-may g c = let t = c.take-store in
    let number = ap (λ (z : Known). z.number) (t.ensures.view ∙ ap (λ (z : Known). caught_up z (account_of t.result)) c.split-seat.ensures.view) in (
      t.result,
      t.ensures.taken,
      (quiet c.split-seat.result t.new.seat t.result t.ensures.teaches t.ensures.taken t.ensures.view, (number, c.in-Ok.ensures.joins)),
    )

pub end-requires-in-Err-clause-core : goal.end-requires-in-Err-clause-core
end-requires-in-Err-clause-core g c = let t = c.take-store in
    core_same c.split-seat.result t.new.seat t.result t.ensures.teaches t.ensures.taken t.ensures.view c.join.new.self c.in-Err.ensures.err

pub end-requires-in-Err-clause-may : goal.end-requires-in-Err-clause-may
end-requires-in-Err-clause-may g c = let t = c.take-store in
    may_same c.split-seat.result t.new.seat t.result t.ensures.teaches t.ensures.taken t.ensures.view c.join.new.self c.in-Err.ensures.err

pub invariant_of-from-in-Err : goal.invariant_of-from-in-Err
invariant_of-from-in-Err g c = let t = c.take-store in let f = c.from in let i = f.inside in let u : Known = c.count-from-inside.new.seat.view in
    let left : Known = c.end-in-Err.new.seat.view in
    let joined = c.join-in-Err.ensures.view ∙ ap (λ (s : Standing Stored Entry). joined_with s.view left) c.split-seat.ensures.same in
    let same = view_same c.split-seat.result t.new.seat t.result t.ensures.teaches t.ensures.taken t.ensures.view c.end-in-Err.new.seat c.end-in-Err.ensures.view in
    let none = ap (λ (z : Known). z.number) (same ∙ ap (λ (z : Known). caught_up z (account_of t.result)) c.split-seat.ensures.view) in
    let counted = subst (λ (z : Known). Counted caller_of c.count-from-inside.result z u) joined c.count-from-inside.ensures.counted in (
      pass_learnt i.seat c.count-from-inside.new.seat i.number i.pinned f.invariant.0 left c.count-from-inside.result none
          (c.count-from-inside.ensures.taken ∙ c.join-in-Err.ensures.taken ∙ ap (λ (s : Standing Stored Entry). s.taken) c.split-seat.ensures.same ∙ f.invariant.0.free)
          counted,
      sym counted.long,
    )

pub returns-in-Ok-clause-grows : goal.returns-in-Ok-clause-grows
returns-in-Ok-clause-grows g c = let v : Known = c.from.inside.seat.view in
    subst (λ (s : PassState). Grows s.view c.split-seat.new.seat.view) c.from.view_is
    (subst (λ (s : Standing Stored Entry). Grows v s.view) (sym c.split-seat.ensures.same) (grows_itself v))

pub returns-in-Err-clause-grows : goal.returns-in-Err-clause-grows
returns-in-Err-clause-grows g c = let v : Known = c.from.inside.seat.view in let u : Known = c.count-from-inside.new.seat.view in
    let left : Known = c.end-in-Err.new.seat.view in
    let joined = c.join-in-Err.ensures.view ∙ ap (λ (s : Standing Stored Entry). joined_with s.view left) c.split-seat.ensures.same in
    subst (λ (s : PassState). Grows s.view u) c.from.view_is
    (grows_joined v left c.count-from-inside.result u (subst (λ (z : Known). Counted caller_of c.count-from-inside.result z u) joined c.count-from-inside.ensures.counted))
