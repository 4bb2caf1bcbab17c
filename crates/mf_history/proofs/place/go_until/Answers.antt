use Rattle.std.proofs.Common.{refl, arith}
use Rattle.mf_history.proofs.place.go_until.Goals as goal

pub returns-then-from-number : goal.returns-then-from-number
returns-then-from-number c = record {
  moves = record {
    later = c.in_ok-advance_until.ensures.later;
    made = refl;
    keeps = λ same. absurd (omega (arith, same, c.if-from-number.true, c.number.ensures, c.number-from.ensures));
    clears = λ more. c.clear.ensures.empty;
  };
  there = c.in_ok-advance_until.ensures.there;
}

pub returns-else-from-number : goal.returns-else-from-number
returns-else-from-number c = record {
  moves = record {
    later = c.in_ok-advance_until.ensures.later;
    made = refl;
    keeps = λ same. refl;
    clears = λ more. absurd (omega (arith, more, c.if-from-number.false, c.number.ensures, c.number-from.ensures));
  };
  there = c.in_ok-advance_until.ensures.there;
}
