use Rattle.std.proofs.Common.{◌∙◌, ap, arith}
use Rattle.mf_history.specs.declared.place.Place.{Place}
use Rattle.mf_history.proofs.Editions.{front_is}
use Rattle.mf_history.proofs.place.go_to.Goals.{then-number-k, else-number-k}
use Rattle.mf_history.proofs.place.go_to.Goals as goal

pub returns : goal.returns
returns c =
    let there = front_is c.args.log.now c.args.k c.advance_to.new.front c.requires.within c.in_ok-advance_to.ensures.is in
    record {
      there = there.0;
      moves = record {
        later = record { front = there.1; from = omega (arith, there.0, c.requires.from) };
        made = elim c.if-number-k.branch [ then-number-k w ↦ ap (λ (p : Place). p.made) w.place-is | else-number-k w ↦ ap (λ (p : Place). p.made) w.place-is ];
        keeps = λ same. elim c.if-number-k.branch [
          | then-number-k w ↦ absurd (omega (arith, same, there.0, w.if-number-k.true, c.number.ensures))
          | else-number-k w ↦ ap (λ (p : Place). p.served) w.place-is
        ];
        clears = λ more. elim c.if-number-k.branch [
          | then-number-k w ↦ ap (λ (p : Place). p.served.keys) w.place-is ∙ w.clear.ensures.empty
          | else-number-k w ↦ absurd (omega (arith, more, there.0, w.if-number-k.false, c.number.ensures))
        ];
      };
    }
