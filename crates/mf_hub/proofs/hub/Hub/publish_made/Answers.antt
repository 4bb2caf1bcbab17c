use Rattle.std.proofs.Common.{◌≡◌, ◌∙◌, ℕ, length, inr, ap, sym, subst, arith}
use Rattle.std.specs.Arc.{arc_value}
use Rattle.mf_edition.specs.Edition.{newest_edition, next_edition, EditionState}
use Rattle.mf_edition.specs.declared.change.Entry.{Entry}
use Rattle.mf_transcript.specs.Steps.{next_entry}
use Rattle.mf_turn.specs.declared.act.Act.TheVariants as act
use Rattle.mf_turn.specs.Account.{entries_by}
use Rattle.mf_turn.specs.Acts.{after}
use Rattle.mf_hub.specs.Passes.{Grows, Known, PassState, Publishes}
use Rattle.mf_hub.specs.Stores.{account_of, caller_of, world_of}
use Rattle.mf_hub.proofs.Growing.{publishes}
use Rattle.mf_hub.proofs.Turned.{after_end, core_same, grows_same, made_is, made_still, may_fix, may_same, pass_published, pass_same, raised_is, seen_same}
use Rattle.mf_hub.proofs.hub.Hub.publish_made.Goals as goal

pub publish-requires-clause-made : goal.publish-requires-clause-made
publish-requires-clause-made g c = let t = c.take-store in let i = c.pass.inside in let v : Known = i.seat.view in
    let is = subst (λ (s : PassState). arc_value c.args.edition ≡ next_edition (newest_edition s.view.log) c.args.change) (sym c.pass.view_is)
    c.requires.edition in
    let number = sym (ap (λ (e : EditionState). e.number) (c.newest_is_last.ensures v.log)) ∙ c.editions_are_numbered.ensures v.log (length v.log) (omega arith) in
    made_still i.seat t.new.seat t.result t.ensures.teaches t.ensures.taken t.ensures.view c.args.change (arc_value c.args.edition) is number

pub raise-pass-inside-requires-clause-may : goal.raise-pass-inside-requires-clause-may
raise-pass-inside-requires-clause-may g c = let t = c.take-store in let p = c.pass in let i = p.inside in
    may_fix i.seat t.new.seat t.result t.ensures.teaches t.ensures.taken t.ensures.view i.number i.pinned p.invariant.0 c.publish.new.self c.args.change
    c.in-Ok.ensures.publishes c.in-Ok.ensures.few

pub end-requires-clause-core : goal.end-requires-clause-core
end-requires-clause-core g c = let t = c.take-store in (t.result, c.raise-pass-inside.ensures.taken ∙ t.ensures.taken, inr c.in-Ok.ensures.step)

pub end-requires-clause-may : goal.end-requires-clause-may
end-requires-clause-may g c = let t = c.take-store in let p = c.pass in let i = p.inside in
    let raised = raised_is i.seat t.new.seat t.result t.ensures.teaches t.ensures.taken t.ensures.view i.number i.pinned p.invariant.0 c.publish.new.self
    c.args.change c.in-Ok.ensures.publishes c.raise-pass-inside.new.seat.view c.raise-pass-inside.ensures.fixes in (
      t.result,
      c.raise-pass-inside.ensures.taken ∙ t.ensures.taken,
      (
        tt,
        (
          next_entry i.number (entries_by caller_of i.number (world_of t.result).log) c.args.change,
          ap (λ (v : Known). v.raised) raised,
          c.in-Ok.ensures.publishes,
        ),
      ),
    )

pub invariant_of-pass : goal.invariant_of-pass
invariant_of-pass g c = let t = c.take-store in let p = c.pass in let i = p.inside in let r = c.raise-pass-inside in
    let raised = raised_is i.seat t.new.seat t.result t.ensures.teaches t.ensures.taken t.ensures.view i.number i.pinned p.invariant.0 c.publish.new.self
    c.args.change c.in-Ok.ensures.publishes r.new.seat.view r.ensures.fixes in
    let same = after_end r.new.seat c.end.new.seat t.result act.Publish (r.ensures.taken ∙ t.ensures.taken) c.end.ensures.view
    ∙ ap (λ (v : Known). after act.Publish (account_of t.result) v) raised in (
      pass_published i.seat t.new.seat t.result t.ensures.teaches t.ensures.taken t.ensures.view i.number i.pinned p.invariant.0 c.publish.new.self
          c.args.change c.in-Ok.ensures.publishes c.end.new.seat c.end.ensures.free same,
      r.ensures.count ∙ ap length c.in-Ok.ensures.publishes.log ∙ sym (ap (λ (v : Known). length v.log) same),
    )

pub returns-in-Ok-clause-published : goal.returns-in-Ok-clause-published
returns-in-Ok-clause-published g c = let t = c.take-store in let p = c.pass in let i = p.inside in let r = c.raise-pass-inside in let v : Known = i.seat.view in
    let x = account_of t.result in let change = c.args.change in let published = c.in-Ok.ensures.publishes in
    let entry : Entry = next_entry i.number (entries_by caller_of i.number x.log) change in
    let raised = raised_is i.seat t.new.seat t.result t.ensures.teaches t.ensures.taken t.ensures.view i.number i.pinned p.invariant.0 c.publish.new.self
    change published r.new.seat.view r.ensures.fixes in
    let same = after_end r.new.seat c.end.new.seat t.result act.Publish (r.ensures.taken ∙ t.ensures.taken) c.end.ensures.view
    ∙ ap (λ (v : Known). after act.Publish x v) raised in
    let made = made_is i.seat t.new.seat t.result t.ensures.teaches t.ensures.taken t.ensures.view i.number i.pinned p.invariant.0 c.publish.new.self change
    published in
    subst (λ (s : PassState). Publishes change r.result s.view c.end.new.seat.view) p.view_is
    (subst (Publishes change r.result v) (sym same)
    (publishes x v t.ensures.teaches change r.result i.number entry p.invariant.0.number_is (ap (λ (n : ℕ). next_entry i.number n change) made)
    (r.ensures.count ∙ ap length published.log)))

pub end-requires-in-Err-clause-core : goal.end-requires-in-Err-clause-core
end-requires-in-Err-clause-core g c = let t = c.take-store in
    core_same c.pass.inside.seat t.new.seat t.result t.ensures.teaches t.ensures.taken t.ensures.view c.publish.new.self c.in-Err.ensures.err

pub end-requires-in-Err-clause-may : goal.end-requires-in-Err-clause-may
end-requires-in-Err-clause-may g c = let t = c.take-store in
    may_same c.pass.inside.seat t.new.seat t.result t.ensures.teaches t.ensures.taken t.ensures.view c.publish.new.self c.in-Err.ensures.err

pub invariant_of-pass-in-Err : goal.invariant_of-pass-in-Err
invariant_of-pass-in-Err g c = let t = c.take-store in let p = c.pass in (
  pass_same p.inside.seat t.new.seat t.result t.ensures.teaches t.ensures.taken t.ensures.view p.inside.number p.inside.pinned p.invariant.0
      c.end-in-Err.new.seat c.end-in-Err.ensures.free c.end-in-Err.ensures.view,
  seen_same p.inside.seat t.new.seat t.result t.ensures.teaches t.ensures.taken t.ensures.view c.end-in-Err.new.seat c.len-pass-inside.result c.end-in-Err.ensures.view
      c.len-pass-inside.ensures,
)

pub returns-in-Err-clause-grows : goal.returns-in-Err-clause-grows
returns-in-Err-clause-grows g c = let t = c.take-store in
    subst (λ (p : PassState). Grows p.view c.end-in-Err.new.seat.view) c.pass.view_is
    (grows_same c.pass.inside.seat t.new.seat t.result t.ensures.teaches t.ensures.taken t.ensures.view c.end-in-Err.new.seat c.end-in-Err.ensures.view)
