use Rattle.std.proofs.Common.{◌≡◌, ◌∙◌, ◌↔◌, Bool, true, false, take, refl, sym, subst, arith}
use Rattle.std.specs.Prelude.{IsTrue}
use Rattle.std.proofs.lemmas.Bool.{true≢false}
use Rattle.std.proofs.lemmas.Option.{none-some, same_Some}
use Rattle.std.proofs.lemmas.Result.{IfOk-weaker}
use Rattle.mf_edition.specs.Sizes.{size_of, used_by}
use Rattle.mf_edition.specs.declared.change.Change.{Change}
use Rattle.mf_history.specs.Places.{IsRefusedAt, IsRefusedFrom}
use Rattle.mf_history.proofs.Publishing.{full_refuses, refused_nowhere, used_low}
use Rattle.mf_history.proofs.publication.refused.Goals as goal

pub returns-then-branch : goal.returns-then-branch
returns-then-branch c = λ change size. (
  c.in_ok-go_to.ensures.moves,
  full_refuses c.args.log.now c.requires.log change c.args.said.now c.go_to.new.place.front.edition.number (c.in_ok-go_to.ensures.there ∙ c.len.ensures.len)
      (c.in_ok-is_full.ensures.0 c.if-branch.true),
)

pub returns-in_default : goal.returns-in_default
returns-in_default c = λ change size.
    refused_nowhere c.args.log.now c.requires.log change c.args.said.now c.args.place.now.front.edition.number
    (λ full. true≢false (sym (c.in_ok-is_full.ensures.1 full) ∙ c.if-branch.false))
    (λ k from inside is store. none-some (used_by (take k c.args.log.now)) (sym c.in_default.is
    ∙ c.used_named.ensures (used_by (take k c.args.log.now)) (size_of change) (used_low c.args.log.now c.requires.log change c.args.said.now k) (omega (arith, size, c.ranges.size.fits)) store))

pub returns : goal.returns
returns c = IfOk-weaker c.is_refused.result _ _
    (λ is refused change size. by change size is (refused c.args.log.now change c.requires.log c.in_ok-go_until.ensures.moves.later.front size)) c.is_refused.ensures
  where
    by : (change : Change) → c.args.size ≡ size_of change → (is : Bool) → IsTrue is ↔ IsRefusedAt c.args.log.now change c.args.said.now c.go_until.new.place.front.edition.number
        → IsRefusedFrom c.args.log.now change c.args.said.now c.args.place.now c.go_until.new.place is
    by change size true refuses = (c.in_ok-go_until.ensures.moves, refuses.0 refl)
    by change size false refuses =
        refused_nowhere c.args.log.now c.requires.log change c.args.said.now c.args.place.now.front.edition.number
        (λ full. true≢false (sym (c.in_ok-is_full.ensures.1 full) ∙ c.if-branch.false))
        (λ k from inside is store.
        let read = same_Some c.in-Some.used (used_by (take k c.args.log.now)) (sym c.in-Some.is
        ∙ c.used_named.ensures (used_by (take k c.args.log.now)) (size_of change) (used_low c.args.log.now c.requires.log change c.args.said.now k) (omega (arith, size, c.ranges.size.fits)) store) in
        let there = c.in_ok-go_until.ensures.there k from inside (sym read) in
        true≢false (sym (refuses.1 (subst (IsRefusedAt c.args.log.now change c.args.said.now) (sym there) is))))
