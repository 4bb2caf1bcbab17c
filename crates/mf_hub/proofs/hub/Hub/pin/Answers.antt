use Rattle.std.proofs.Common.{◌∙◌, ℕ, length, Option, Some, inr, ap, refl, sym, subst}
use Rattle.mf_turn.specs.declared.act.Act.TheVariants as act
use Rattle.mf_turn.specs.Account.{Changes}
use Rattle.mf_turn.specs.Acts.{caught_up}
use Rattle.mf_hub.specs.Passes.{Grows, Known, PassState}
use Rattle.mf_hub.specs.Stores.{account_of}
use Rattle.mf_hub.proofs.Growing.{grows}
use Rattle.mf_hub.proofs.Turned.{after_end, core_same, grows_same, holds_newest, may_same, numbered, pass_pinned, pass_same, quiet, unclaimed, seen_same}
use Rattle.mf_hub.proofs.hub.Hub.pin.Goals as goal

pub end-requires-clause-core : goal.end-requires-clause-core
end-requires-clause-core g c = let t = c.take-store in (t.result, t.ensures.taken, inr c.pin.ensures.step)

pub end-requires-clause-may : goal.end-requires-clause-may
end-requires-clause-may g c = let t = c.take-store in let p = c.pass in let i = p.inside in
    let none = unclaimed i.seat t.new.seat t.result t.ensures.teaches t.ensures.taken t.ensures.view i.number i.pinned p.invariant.0 in (
      t.result,
      t.ensures.taken,
      (
        quiet i.seat t.new.seat t.result t.ensures.teaches t.ensures.taken t.ensures.view,
        (
          i.number,
          numbered i.seat t.new.seat t.result t.ensures.teaches t.ensures.taken t.ensures.view i.number i.pinned p.invariant.0,
          subst (λ (z : ℕ × Option (ℕ × ℕ)). Changes i.number (Some z.0) z.1 0 (account_of t.result) (account_of c.pin.new.self))
              (λ k. (c.pin.ensures.newest k, sym none k)) c.pin.ensures.pins,
        ),
      ),
    )

pub invariant_of-pass : goal.invariant_of-pass
invariant_of-pass g c = let t = c.take-store in let p = c.pass in let i = p.inside in let x = account_of t.result in
    let same = after_end t.new.seat c.end.new.seat t.result act.Pin t.ensures.taken c.end.ensures.view
    ∙ ap (λ (z : Known). record z { pin = Some (length x.log) }) t.ensures.view in (
      pass_pinned i.seat t.new.seat t.result t.ensures.teaches t.ensures.taken t.ensures.view i.number i.pinned p.invariant.0 c.end.new.seat
          (Some (length x.log)) (Some c.in-Ok.own) c.end.ensures.free same
          (holds_newest c.in-Ok.own (record (caught_up i.seat.view x) { pin = Some (length x.log) }) refl c.in-Ok.ensures.first),
      c.len-pass-inside.ensures ∙ sym (ap (λ (v : Known). length v.log) same),
    )

pub end-requires-in-Err-clause-core : goal.end-requires-in-Err-clause-core
end-requires-in-Err-clause-core g c = let t = c.take-store in
    core_same c.pass.inside.seat t.new.seat t.result t.ensures.teaches t.ensures.taken t.ensures.view t.result (refl, refl)

pub end-requires-in-Err-clause-may : goal.end-requires-in-Err-clause-may
end-requires-in-Err-clause-may g c = let t = c.take-store in
    may_same c.pass.inside.seat t.new.seat t.result t.ensures.teaches t.ensures.taken t.ensures.view t.result (refl, refl)

pub invariant_of-pass-in-Err : goal.invariant_of-pass-in-Err
invariant_of-pass-in-Err g c = let t = c.take-store in let p = c.pass in (
  pass_same p.inside.seat t.new.seat t.result t.ensures.teaches t.ensures.taken t.ensures.view p.inside.number p.inside.pinned p.invariant.0
      c.end-in-Err.new.seat c.end-in-Err.ensures.free c.end-in-Err.ensures.view,
  seen_same p.inside.seat t.new.seat t.result t.ensures.teaches t.ensures.taken t.ensures.view c.end-in-Err.new.seat c.len-pass-inside.result c.end-in-Err.ensures.view
      c.len-pass-inside.ensures,
)

pub returns-in-Ok-clause-grows : goal.returns-in-Ok-clause-grows
returns-in-Ok-clause-grows g c = let t = c.take-store in let p = c.pass in let v : Known = p.inside.seat.view in let x = account_of t.result in
    let same = after_end t.new.seat c.end.new.seat t.result act.Pin t.ensures.taken c.end.ensures.view
    ∙ ap (λ (z : Known). record z { pin = Some (length x.log) }) t.ensures.view in
    subst (λ (s : PassState). Grows s.view c.end.new.seat.view) p.view_is
    (subst (Grows v) (sym same) (grows x v t.ensures.teaches (Some (length x.log))))

pub returns-in-Err-clause-grows : goal.returns-in-Err-clause-grows
returns-in-Err-clause-grows g c = let t = c.take-store in
    subst (λ (p : PassState). Grows p.view c.end-in-Err.new.seat.view) c.pass.view_is
    (grows_same c.pass.inside.seat t.new.seat t.result t.ensures.teaches t.ensures.taken t.ensures.view c.end-in-Err.new.seat c.end-in-Err.ensures.view)
