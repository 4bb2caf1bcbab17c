use Rattle.std.proofs.Common.{◌+◌, ◌∙◌, sym, subst}
use Rattle.mf_select.specs.Ranks.{IsBest, row_of}
use Rattle.mf_select.proofs.Least.{better_step, kept_step, skipped_step}
use Rattle.mf_select.proofs.ranks.Ranks.least.Goals as goal
use Rattle.mf_select.proofs.ranks.Ranks.least.Goals.{then-is_match+then-is_better, else-is_match, else-is_match-via-then-is_match+else-is_better, else-is_match-via-else-is_match}

pub loop-place-preserved : goal.loop-place-preserved
loop-place-preserved c =
    let ranks = c.args.self.now in
    let place = c.loop-place.place in
    let best = c.loop-place.best in
    elim c.if-is_match.branch [
      | then-is_match+then-is_better w ↦
          subst (IsBest (row_of ranks) (place + 1)) (sym w.best-is)
          (better_step ranks place best (sym c.is_match.ensures ∙ w.if-is_match.true) (sym w.is_better.ensures ∙ w.if-is_better.true) c.loop-place.invariant)
      | else-is_match w ↦
          subst (IsBest (row_of ranks) (place + 1)) (sym w.best-is)
          (elim w.else-is_match.branch [
            | else-is_match-via-then-is_match+else-is_better v ↦
                kept_step ranks place best (sym c.is_match.ensures ∙ v.if-is_match.true) (sym v.is_better.ensures ∙ v.if-is_better.false) c.loop-place.invariant
            | else-is_match-via-else-is_match v ↦ skipped_step ranks place best (sym c.is_match.ensures ∙ v.if-is_match.false) c.loop-place.invariant
          ])
    ]
