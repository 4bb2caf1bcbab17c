use Rattle.std.proofs.Common.{◌≡◌, ◌∙◌, ℕ, [], ◌∷◌, Option, None, Some, ap, subst, arith}
use Rattle.std.specs.Prelude.{IfNone, IfSome}
use Rattle.std.specs.declared.alloc.Global.{Global}
use Rattle.std.specs.declared.sync.Arc.{Arc}
use Rattle.mf_plan.specs.declared.plan.Plan.{Plan}
use Rattle.mf_hub.specs.Stores.{GetsOf}
use Rattle.mf_hub.specs.declared.got.Got.{Got}
use Rattle.mf_hub.specs.declared.got.Got.TheVariants.{Claimed, Ready}
use Rattle.mf_hub.proofs.Seats.{after_claim, after_same, after_serve, core_step, grows_turned, may_claim, may_serve, within_taken}
use Rattle.mf_hub.proofs.Turned.{core_same, may_same}
use Rattle.mf_hub.proofs.hub.Hub.ask_once.Goals as goal

-- what was got
ready : (P : Got → Type 0) {found : Option Got} {got : Got} {plan : Arc Plan Global} → found ≡ Some got → got ≡ Ready plan → IfSome found P → P (Ready plan)
ready P found got is = subst (λ z. IfSome z P) (found ∙ ap Some got) is

claimed : (P : Got → Type 0) {found : Option Got} {got : Got} {ticket : ℕ × ℕ} → found ≡ Some got → got ≡ Claimed ticket → IfSome found P → P (Claimed ticket)
claimed P found got is = subst (λ z. IfSome z P) (found ∙ ap Some got) is

none : {P : Type 0} {found : Option Got} → found ≡ None → IfNone found P → P
none {P} found is = subst (λ z. IfNone z P) found is

pub end-requires-clause-core : goal.end-requires-clause-core
end-requires-clause-core g c = let t = c.take-store in
    core_same c.args.seat.now t.new.seat t.result t.ensures.teaches t.ensures.taken t.ensures.view c.ask.new.self (ready (GetsOf c.args.number c.args.edition c.args.index t.result c.ask.new.self) c.in-Ok-Some-Ready.field-0-is c.in-Ok-Some-Ready.field-0-0-is c.in-Ok-Some-Ready.ensures.got).0

pub end-requires-clause-may : goal.end-requires-clause-may
end-requires-clause-may g c = let t = c.take-store in let got = ready (GetsOf c.args.number c.args.edition c.args.index t.result c.ask.new.self) c.in-Ok-Some-Ready.field-0-is c.in-Ok-Some-Ready.field-0-0-is c.in-Ok-Some-Ready.ensures.got in
    may_serve c.args.seat.now t.new.seat t.result t.ensures.teaches t.ensures.taken t.ensures.view c.ask.new.self c.args.edition c.args.index got.0
    (within_taken c.args.seat.now t.new.seat t.result t.ensures.teaches t.ensures.taken t.ensures.view c.args.edition c.requires.message.within) got.2

pub end-requires-in-Ok-Some-Claimed-clause-core : goal.end-requires-in-Ok-Some-Claimed-clause-core
end-requires-in-Ok-Some-Claimed-clause-core g c = let t = c.take-store in
    core_step c.args.seat.now t.new.seat t.result t.ensures.teaches t.ensures.taken t.ensures.view c.ask.new.self (claimed (GetsOf c.args.number c.args.edition c.args.index t.result c.ask.new.self) c.in-Ok-Some-Claimed.field-0-is c.in-Ok-Some-Claimed.field-0-0-is c.in-Ok-Some-Claimed.ensures.got).1

pub end-requires-in-Ok-Some-Claimed-clause-may : goal.end-requires-in-Ok-Some-Claimed-clause-may
end-requires-in-Ok-Some-Claimed-clause-may g c = let t = c.take-store in
    may_claim c.args.seat.now t.new.seat t.result t.ensures.teaches t.ensures.taken t.ensures.view c.args.number None c.requires.seat c.ask.new.self c.args.edition c.args.index
    c.requires.message.pinned (claimed (GetsOf c.args.number c.args.edition c.args.index t.result c.ask.new.self) c.in-Ok-Some-Claimed.field-0-is c.in-Ok-Some-Claimed.field-0-0-is c.in-Ok-Some-Claimed.ensures.got).2

pub end-requires-in-Ok-None-clause-core : goal.end-requires-in-Ok-None-clause-core
end-requires-in-Ok-None-clause-core g c = let t = c.take-store in
    core_same c.args.seat.now t.new.seat t.result t.ensures.teaches t.ensures.taken t.ensures.view c.ask.new.self (none c.in-Ok-None.field-0-is c.in-Ok-None.ensures.busy)

pub end-requires-in-Ok-None-clause-may : goal.end-requires-in-Ok-None-clause-may
end-requires-in-Ok-None-clause-may g c = let t = c.take-store in
    may_same c.args.seat.now t.new.seat t.result t.ensures.teaches t.ensures.taken t.ensures.view c.ask.new.self (none c.in-Ok-None.field-0-is c.in-Ok-None.ensures.busy)

pub end-requires-in-Err-clause-core : goal.end-requires-in-Err-clause-core
end-requires-in-Err-clause-core g c = let t = c.take-store in
    core_same c.args.seat.now t.new.seat t.result t.ensures.teaches t.ensures.taken t.ensures.view c.ask.new.self c.in-Err.ensures.err

pub end-requires-in-Err-clause-may : goal.end-requires-in-Err-clause-may
end-requires-in-Err-clause-may g c = let t = c.take-store in
    may_same c.args.seat.now t.new.seat t.result t.ensures.teaches t.ensures.taken t.ensures.view c.ask.new.self c.in-Err.ensures.err

pub returns-in-Ok-Some-Ready-clause-grows : goal.returns-in-Ok-Some-Ready-clause-grows
returns-in-Ok-Some-Ready-clause-grows g c = let t = c.take-store in let v = c.args.seat.now.view in
    grows_turned c.args.seat.now t.new.seat t.result t.ensures.teaches t.ensures.taken t.ensures.view v.claim ((c.args.edition, c.args.index) ∷ []) v.given v.heard c.end.new.seat (omega arith)
    (after_serve c.args.seat.now t.new.seat t.result t.ensures.teaches t.ensures.taken t.ensures.view c.end.new.seat c.args.edition c.args.index c.end.ensures.view)

pub returns-in-Ok-Some-Claimed-clause-grows : goal.returns-in-Ok-Some-Claimed-clause-grows
returns-in-Ok-Some-Claimed-clause-grows g c = let t = c.take-store in let v = c.args.seat.now.view in
    grows_turned c.args.seat.now t.new.seat t.result t.ensures.teaches t.ensures.taken t.ensures.view (Some (c.args.edition, c.args.index)) [] v.given v.heard c.end-in-Ok-Some-Claimed.new.seat (omega arith)
    (after_claim c.args.seat.now t.new.seat t.result t.ensures.teaches t.ensures.taken t.ensures.view c.end-in-Ok-Some-Claimed.new.seat c.args.edition c.args.index c.end-in-Ok-Some-Claimed.ensures.view)

pub returns-in-Ok-None-clause-grows : goal.returns-in-Ok-None-clause-grows
returns-in-Ok-None-clause-grows g c = let t = c.take-store in let v = c.args.seat.now.view in
    grows_turned c.args.seat.now t.new.seat t.result t.ensures.teaches t.ensures.taken t.ensures.view v.claim [] v.given v.heard c.end-in-Ok-None.new.seat (omega arith)
    (after_same c.args.seat.now t.new.seat t.result t.ensures.teaches t.ensures.taken t.ensures.view c.end-in-Ok-None.new.seat c.end-in-Ok-None.ensures.view)

pub returns-in-Err-clause-grows : goal.returns-in-Err-clause-grows
returns-in-Err-clause-grows g c = let t = c.take-store in let v = c.args.seat.now.view in
    grows_turned c.args.seat.now t.new.seat t.result t.ensures.teaches t.ensures.taken t.ensures.view v.claim [] v.given v.heard c.end-in-Err.new.seat (omega arith)
    (after_same c.args.seat.now t.new.seat t.result t.ensures.teaches t.ensures.taken t.ensures.view c.end-in-Err.new.seat c.end-in-Err.ensures.view)
