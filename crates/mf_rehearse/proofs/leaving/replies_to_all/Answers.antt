use Rattle.std.proofs.Common.{◌∙◌, IfOk, Some, [], ◌∷◌, length, ap, sym, subst, arith}
use Rattle.std.proofs.lemmas.List.{length-append}
use Rattle.std.proofs.lemmas.List.Elements.{All-pop}
use Rattle.mf_rehearse.proofs.Departing.{left_more}
use Rattle.mf_rehearse.specs.Leaving.{Left}
use Rattle.mf_rehearse.specs.Playing.{HasPlayed}
use Rattle.mf_wire.specs.Lines.{lines_of}
use Rattle.mf_rehearse.proofs.leaving.replies_to_all.Goals as goal

pub loop-next-preserved : goal.loop-next-preserved
loop-next-preserved g c =
    let lines = lines_of c.args.input.now in
    let l = c.loop-next in
    let left = c.leave-replies in
    let popped =
    All-pop (λ one. IfOk one (HasPlayed c.args.hub.now lines)) l.played.items c.pop.new.self.items (Some c.in-Some.next) c.in-Some.ensures.items
    l.invariant.2 in
    let here = subst (λ one. IfOk one (HasPlayed c.args.hub.now lines)) c.in_ok-one.was popped.1 in
    let kept = c.in_ok-push.ensures.items in
    let a = ap length kept in
    let b = length-append l.kept.items (left.result ∷ []) in
    let d = ap length c.in-Some.ensures.items in
    let e = length-append c.pop.new.self.items (c.in-Some.next ∷ []) in (
      left.ensures.own ∙ l.invariant.0,
      subst (Left lines left.new.home.view) (sym kept)
          (left_more c.args.hub.now lines c.in_ok-one.one l.home.view left.new.home.view l.kept.items left.result here left.ensures.number
          left.ensures.replies left.ensures.inherits l.invariant.1),
      popped.0,
      omega (arith, a, b, d, e, l.invariant.3),
    )
