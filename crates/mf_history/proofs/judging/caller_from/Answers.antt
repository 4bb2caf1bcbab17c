use Rattle.std.proofs.Common.{◌≡◌, ◌∙◌, ◌+◌, ◌≤◌, ◌++◌, ℕ, [], length, drop, take, if◌then◌else◌, refl, ap, sym, subst, arith}
use Rattle.std.specs.Option.{option_copied}
use Rattle.std.specs.Prelude.{IfSome}
use Rattle.std.proofs.lemmas.Bool.{ne_eqb}
use Rattle.std.proofs.lemmas.List.{append-nil}
use Rattle.std.proofs.lemmas.Option.{slice_get_read}
use Rattle.mf_legal.specs.Calls.{made_by, one_if}
use Rattle.mf_history.specs.Callers.{IsBelow}
use Rattle.mf_history.specs.Records.{said_by}
use Rattle.mf_history.proofs.Walks.{made_here, none_from, said_next}
use Rattle.mf_history.proofs.judging.caller_from.Goals.{in-Some, in_default}
use Rattle.mf_history.proofs.judging.caller_from.Goals as goal

pub loop-transcript-preserved : goal.loop-transcript-preserved
loop-transcript-preserved c = (
  c.lesser-least.ensures.from c.loop-transcript.invariant.0,
  λ caller above below.
      let item = slice_get_read c.args.transcripts.now (length c.args.transcripts.now) c.loop-transcript.transcript-index c.transcript-item.result refl
      c.loop-transcript-test.true c.transcript-item.is in
      said_next caller c.args.transcripts.now c.loop-transcript.transcript-index c.transcript-item.result item
      ∙ ap (λ b. said_by caller (take c.loop-transcript.transcript-index c.args.transcripts.now) ++ (if b then c.transcript-item.result.lines else []))
      (ne_eqb c.transcript-item.result.caller caller (c.lesser-least.ensures.other caller above below))
      ∙ append-nil (said_by caller (take c.loop-transcript.transcript-index c.args.transcripts.now))
      ∙ c.loop-transcript.invariant.1 caller above (c.lesser-least.ensures.least caller below),
)

pub loop-k-preserved : goal.loop-k-preserved
loop-k-preserved c = elim c.match-get.branch [
  | in-Some w ↦
      let here = λ (caller : ℕ). made_here caller c.args.log.now c.loop-k.k w.in-Some.entry.now (sym c.get.ensures ∙ ap option_copied w.in-Some.is) in
      subst (λ least. IfSome least (λ caller. c.args.from ≤ caller)
      × ((caller : ℕ) → c.args.from ≤ caller → IsBelow least caller → said_by caller c.args.transcripts.now ≡ [])
      × ((caller : ℕ) → c.args.from ≤ caller → IsBelow least caller → made_by caller (drop (c.loop-k.k + 1) c.args.log.now) ≡ made_by caller c.args.log.now)) (sym w.least-is) (
        w.lesser-least-in-Some.ensures.from c.loop-k.invariant.0,
        λ caller above below. c.loop-k.invariant.1 caller above (w.lesser-least-in-Some.ensures.least caller below),
        λ caller above below.
            let none = ap one_if (ne_eqb w.in-Some.entry.now.caller caller (w.lesser-least-in-Some.ensures.other caller above below)) in
            let before = c.loop-k.invariant.2 caller above (w.lesser-least-in-Some.ensures.least caller below) in
            omega (arith, none, before, here caller),
      )
  | in_default w ↦ absurd (none_from c.args.log.now c.loop-k.k (sym c.get.ensures ∙ ap option_copied w.in_default.is) (omega (arith, c.loop-k-test.true, c.len-k-end.ensures.len)))
]
