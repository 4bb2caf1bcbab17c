-- Runs of the characters of a class.
use Rattle.std.proofs.Common.{◌≡◌, ℕ, Bool, true, false, List, [], ◌∷◌, ◌++◌, refl, ap, sym, ◌∙◌, inl, inr}
use Rattle.std.proofs.lemmas.Bool.{cases_Bool, cond-true, cond-false}
use Rattle.std.proofs.lemmas.List.{append_cancel_right}
use Rattle.mf_lex.specs.Cursor.{EndsWith}
use Rattle.mf_lex.specs.Computed.{is_next, run, behind_run}

-- a run that goes on
pub run_more : (p : ℕ → Bool) (c : ℕ) (cs : List ℕ) → p c ≡ true → run p (c ∷ cs) ≡ c ∷ run p cs
run_more p c cs is = cond-true (p c) _ _ is

pub behind_more : (p : ℕ → Bool) (c : ℕ) (cs : List ℕ) → p c ≡ true → behind_run p (c ∷ cs) ≡ behind_run p cs
behind_more p c cs is = cond-true (p c) _ _ is

-- a run that doesn't
pub run_ends : (p : ℕ → Bool) (cs : List ℕ) → is_next p cs ≡ false → run p cs ≡ []
run_ends p [] ends = refl
run_ends p (c ∷ cs) ends = cond-false (p c) _ _ ends

pub behind_ends : (p : ℕ → Bool) (cs : List ℕ) → is_next p cs ≡ false → behind_run p cs ≡ cs
behind_ends p [] ends = refl
behind_ends p (c ∷ cs) ends = cond-false (p c) _ _ ends

-- the run and what is behind it are the whole
pub run_splits : (p : ℕ → Bool) (cs : List ℕ) → cs ≡ run p cs ++ behind_run p cs
run_splits p [] = refl
run_splits p (c ∷ cs) =
    elim (cases_Bool (p c)) [
      | inl is ↦
          ap (λ ds. c ∷ ds) (run_splits p cs)
          ∙ ap (λ ds. ds ++ behind_run p cs) (sym (run_more p c cs is))
          ∙ ap (λ ds. run p (c ∷ cs) ++ ds) (sym (behind_more p c cs is))
      | inr ends ↦
          ap (λ ds. ds ++ c ∷ cs) (sym (run_ends p (c ∷ cs) ends))
          ∙ ap (λ ds. run p (c ∷ cs) ++ ds) (sym (behind_ends p (c ∷ cs) ends))
    ]

-- what stands before the place behind a run is the run
pub ends_with_behind : (p : ℕ → Bool) (start end old : List ℕ) → start ≡ old → end ≡ behind_run p old → EndsWith start end
ends_with_behind p start end old whole behind = record {
  front = run p old;
  split = whole ∙ run_splits p old ∙ ap (λ cs. run p old ++ cs) (sym behind);
}

pub taken_is_run : (p : ℕ → Bool) (start end old taken : List ℕ) → start ≡ old → end ≡ behind_run p old → start ≡ taken ++ end → taken ≡ run p old
taken_is_run p start end old taken whole behind split =
    append_cancel_right taken (run p old) end
    (sym split ∙ whole ∙ run_splits p old ∙ ap (λ cs. run p old ++ cs) (sym behind))
