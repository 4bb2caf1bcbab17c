use Rattle.std.proofs.Common.{◌∙◌, ℕ, Option, None, inr, ap, refl, sym, subst}
use Rattle.mf_turn.specs.declared.act.Act.TheVariants as act
use Rattle.mf_turn.specs.Account.{Changes}
use Rattle.mf_hub.specs.Passes.{Grows, Known, PassState}
use Rattle.mf_hub.specs.Stores.{account_of}
use Rattle.mf_hub.proofs.Growing.{grows}
use Rattle.mf_hub.proofs.Turned.{after_end, core_same, grows_same, may_same, numbered, quiet, unclaimed}
use Rattle.mf_hub.proofs.hub.Hub.unpin.Goals as goal

pub end-requires-clause-core : goal.end-requires-clause-core
end-requires-clause-core g c = let t = c.take-store in
    core_same c.pass.inside.seat t.new.seat t.result t.ensures.teaches t.ensures.taken t.ensures.view t.result (refl, refl)

pub end-requires-clause-may : goal.end-requires-clause-may
end-requires-clause-may g c = let t = c.take-store in
    may_same c.pass.inside.seat t.new.seat t.result t.ensures.teaches t.ensures.taken t.ensures.view t.result (refl, refl)

pub returns-then-is_none-clause-grows : goal.returns-then-is_none-clause-grows
returns-then-is_none-clause-grows g c = let t = c.take-store in
    subst (λ (p : PassState). Grows p.view c.end.new.seat.view) c.pass.view_is
    (grows_same c.pass.inside.seat t.new.seat t.result t.ensures.teaches t.ensures.taken t.ensures.view c.end.new.seat c.end.ensures.view)

pub end-requires-2-clause-core : goal.end-requires-2-clause-core
end-requires-2-clause-core g c = let t = c.take-store in (t.result, t.ensures.taken, inr c.unpin.ensures.step)

pub end-requires-2-clause-may : goal.end-requires-2-clause-may
end-requires-2-clause-may g c = let t = c.take-store in let p = c.pass in let i = p.inside in
    let none = unclaimed i.seat t.new.seat t.result t.ensures.teaches t.ensures.taken t.ensures.view i.number i.pinned p.invariant.0 in (
      t.result,
      t.ensures.taken,
      (
        quiet i.seat t.new.seat t.result t.ensures.teaches t.ensures.taken t.ensures.view,
        (
          i.number,
          numbered i.seat t.new.seat t.result t.ensures.teaches t.ensures.taken t.ensures.view i.number i.pinned p.invariant.0,
          subst (λ (claim : Option (ℕ × ℕ)). Changes i.number None claim 0 (account_of t.result) (account_of c.unpin.new.self)) (sym none)
              c.unpin.ensures.unpins,
        ),
      ),
    )

pub returns-clause-grows : goal.returns-clause-grows
returns-clause-grows g c = let t = c.take-store in let p = c.pass in let v : Known = p.inside.seat.view in let x = account_of t.result in
    let same = after_end t.new.seat c.end-2.new.seat t.result act.Unpin t.ensures.taken c.end-2.ensures.view
    ∙ ap (λ (z : Known). record z { pin = None }) t.ensures.view in
    subst (λ (s : PassState). Grows s.view c.end-2.new.seat.view) p.view_is
    (subst (Grows v) (sym same) (grows x v t.ensures.teaches None))
