-- Where a caller stands after it has gone on.
use Rattle.std.proofs.Common.{◌≡◌, ◌∙◌, ◌⊎◌, inl, inr, ℕ, ◌+◌, ◌<◌, ◌≤◌, List, length, ap, sym, subst, arith}
use Rattle.std.proofs.lemmas.Bool.{cases_eq}
use Rattle.mf_edition.specs.Edition.{edition_of}
use Rattle.mf_edition.specs.declared.change.Entry.{Entry}
use Rattle.mf_transcript.specs.Served.{in_edition}
use Rattle.mf_transcript.specs.Steps.{makes, sees, Standing}
use Rattle.mf_history.specs.Places.{front_of, Moves, StandsAs}
use Rattle.mf_history.specs.Served.{IsServed}
use Rattle.mf_history.specs.declared.place.Place.{Place}
use Rattle.mf_history.proofs.Counted.{serves_none}
use Rattle.mf_history.proofs.Editions.{front_is}

module _ (log : List Entry) (old : Place) (before : Standing) (stands : StandsAs log old before) where
  pub stands_at : old.front.edition.number ≡ before.edition
  stands_at = (front_is log before.edition old.front stands.within stands.front).0

  module _ (new : Place) (moves : Moves log old new) (k : ℕ) (there : new.front.edition.number ≡ k) where
    from : before.edition ≤ k
    from = omega (arith, moves.later.from, there, stands_at)

    served : (before.edition ≡ k) ⊎ (before.edition ≡ k → ⊥) → IsServed new.served (in_edition k before.served) (length (edition_of log k).items)
    served (inl same) =
        let kept = moves.keeps (there ∙ sym same ∙ sym stands_at) in
        subst (λ n. IsServed new.served (in_edition n before.served) (length (edition_of log n).items)) same
        (subst (λ s. IsServed s (in_edition before.edition before.served) (length (edition_of log before.edition).items)) (sym kept) stands.served)
    served (inr apart) =
        let more : before.edition < k = omega (arith, from, apart) in
        subst (λ l. IsServed new.served l (length (edition_of log k).items)) (sym (stands.none k more))
        (serves_none new.served (length (edition_of log k).items) (moves.clears (omega (arith, more, there, stands_at))))

    pub moved : StandsAs log new (sees before k)
    moved = record {
      within = omega (arith, moves.later.front.within, there);
      front = moves.later.front.is ∙ ap (front_of log) there;
      made = moves.made ∙ stands.made;
      few = omega (arith, stands.few, from);
      served = served (cases_eq before.edition k);
      none = λ j more. stands.none j (omega (arith, more, from));
    }

    pub moved_on : before.edition < k → StandsAs log (record { front = new.front; made = new.made + 1; served = new.served }) (makes before k)
    moved_on above = record {
      within = moved.within;
      front = moved.front;
      made = ap (λ n. n + 1) moved.made;
      few = omega (arith, stands.few, above);
      served = moved.served;
      none = moved.none;
    }
