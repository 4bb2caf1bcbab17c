use Rattle.std.proofs.Common.{◌≡◌, ◌⊎◌, inl, inr, ◌≤◌, ◌<◌, ℕ, MatchOption, sym, subst, arith}
use Rattle.std.proofs.lemmas.Bool.{cases_eq, cases_lt}
use Rattle.mf_history.specs.Records.{said_by, IsLegalRecord}
use Rattle.mf_history.specs.Verdicts.{FirstUnfit, Fits, IsFirstMisfit}
use Rattle.mf_history.proofs.Verdicts.{all_legal, below_fits, first_misfit, nothing_fits}
use Rattle.mf_history.proofs.judging.legal.Goals as goal

pub returns-in-Some-2 : goal.returns-in-Some-2
returns-in-Some-2 c =
    subst (λ transcripts. IsFirstMisfit c.args.log.now transcripts c.in-Some.caller c.in-Some-2.place) c.as_slice-transcripts.ensures
    (first_misfit c.args.log.now c.as_slice-transcripts.result.now c.in-Some.caller c.in-Some-2.place
    (λ other less. subst (λ most. Fits most c.args.log.now other (said_by other c.as_slice-transcripts.result.now)) c.in_ok-most.ensures.count
    (below_fits c.args.log.now c.as_slice-transcripts.result.now c.in_ok-most.most c.loop-caller.from c.in-Some.caller other c.loop-caller.invariant.1 c.in-Some.ensures.below less))
    (subst (λ most. FirstUnfit most c.args.log.now c.in-Some.caller (said_by c.in-Some.caller c.as_slice-transcripts.result.now) c.in-Some-2.place) c.in_ok-most.ensures.count
    (subst (λ unfit. MatchOption unfit (Fits c.in_ok-most.most c.args.log.now c.in-Some.caller (said_by c.in-Some.caller c.as_slice-transcripts.result.now))
    (FirstUnfit c.in_ok-most.most c.args.log.now c.in-Some.caller (said_by c.in-Some.caller c.as_slice-transcripts.result.now))) c.in-Some-2.is c.in_ok-place.ensures)))

pub loop-caller-preserved : goal.loop-caller-preserved
loop-caller-preserved c = (
  c.next_after-from.ensures.few,
  λ other less. by other less (cases_eq other c.in-Some.caller),
)
  where
    by : (other : ℕ) → other < c.next_after-from.result → (other ≡ c.in-Some.caller) ⊎ (other ≡ c.in-Some.caller → ⊥)
        → Fits c.in_ok-most.most c.args.log.now other (said_by other c.as_slice-transcripts.result.now)
    by other less (inl same) =
        subst (λ n. Fits c.in_ok-most.most c.args.log.now n (said_by n c.as_slice-transcripts.result.now)) (sym same)
        (subst (λ unfit. MatchOption unfit (Fits c.in_ok-most.most c.args.log.now c.in-Some.caller (said_by c.in-Some.caller c.as_slice-transcripts.result.now))
        (FirstUnfit c.in_ok-most.most c.args.log.now c.in-Some.caller (said_by c.in-Some.caller c.as_slice-transcripts.result.now))) c.in_default-2.is c.in_ok-place.ensures)
    by other less (inr apart) =
        below_fits c.args.log.now c.as_slice-transcripts.result.now c.in_ok-most.most c.loop-caller.from c.in-Some.caller other c.loop-caller.invariant.1 c.in-Some.ensures.below
        (omega (arith, less, apart, c.next_after-from.ensures.next))

pub returns : goal.returns
returns c =
    subst (λ transcripts. IsLegalRecord c.args.log.now transcripts) c.as_slice-transcripts.ensures
    (all_legal c.args.log.now c.as_slice-transcripts.result.now
    (λ caller. subst (λ most. Fits most c.args.log.now caller (said_by caller c.as_slice-transcripts.result.now)) c.in_ok-most.ensures.count
    (by caller (cases_lt caller c.loop-caller.from))))
  where
    by : (caller : ℕ) → (caller < c.loop-caller.from) ⊎ (c.loop-caller.from ≤ caller)
        → Fits c.in_ok-most.most c.args.log.now caller (said_by caller c.as_slice-transcripts.result.now)
    by caller (inl below) = c.loop-caller.invariant.1 caller below
    by caller (inr above) = nothing_fits c.in_ok-most.most c.args.log.now c.as_slice-transcripts.result.now caller (c.in_default.ensures.below caller above tt)
