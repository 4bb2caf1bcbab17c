-- Texts of a rule at the front of characters.
use Rattle.std.proofs.Common.{◌≡◌, ℕ, ◌≤◌, Bool, true, Option, Some, List, [], ◌∷◌, ◌++◌, refl, ap, sym, ◌∙◌, subst, length, inl, inr, append_assoc, arith}
use Rattle.std.proofs.lemmas.Bool.{cases_Bool, and_parts}
use Rattle.std.proofs.lemmas.List.{append-nil}
use Rattle.std.specs.List.{list_all}
use Rattle.mf_text.specs.Languages.{Language, Joined, Begins, Any}
use Rattle.mf_lex.specs.Computed.{run, behind_run}
use Rattle.mf_lex.proofs.Runs.{run_more, run_ends, behind_more, run_splits}
use Rattle.mf_lex.proofs.Gathering.{pair_second}

-- a whole text begins itself
pub begins_whole : (Rule : Language) (text : List ℕ) → Rule text → Begins Rule text []
begins_whole Rule text is = record { taken = text; whole = sym (append-nil text); is = is }

-- a text of a joined rule begins with one of the first, and behind that one of the second begins
pub record Parted (First Second : Language) (characters left : List ℕ) : Type 0 where
  pub between : List ℕ
  pub first : Begins First characters between
  pub second : Begins Second between left

pub parted : (First Second : Language) (characters left : List ℕ) → Begins (Joined First Second) characters left → Parted First Second characters left
parted First Second characters left begins = record {
  between = begins.is.back ++ left;
  first = record {
    taken = begins.is.front;
    whole = begins.whole ∙ ap (λ cs. cs ++ left) begins.is.whole ∙ append_assoc begins.is.front begins.is.back left;
    is = begins.is.first;
  };
  second = record { taken = begins.is.back; whole = refl; is = begins.is.second };
}

pub joined : (First Second : Language) (characters between left : List ℕ) → Begins First characters between → Begins Second between left →
    Begins (Joined First Second) characters left
joined First Second characters between left first second = record {
  taken = first.taken ++ second.taken;
  whole = first.whole ∙ ap (λ cs. first.taken ++ cs) second.whole ∙ sym (append_assoc first.taken second.taken left);
  is = record { front = first.taken; back = second.taken; whole = refl; first = first.is; second = second.is };
}

-- characters of a class at the front
pub run_is_of : (p : ℕ → Bool) (cs : List ℕ) → Any p (run p cs)
run_is_of p [] = tt
run_is_of p (c ∷ cs) =
    elim (cases_Bool (p c)) [
      | inl is ↦ subst (Any p) (sym (run_more p c cs is)) (is, run_is_of p cs)
      | inr ends ↦ subst (Any p) (sym (run_ends p (c ∷ cs) ends)) tt
    ]

pub run_begins : (p : ℕ → Bool) (cs : List ℕ) → Begins (Any p) cs (behind_run p cs)
run_begins p cs = record { taken = run p cs; whole = run_splits p cs; is = run_is_of p cs }

pub run_passes : (p : ℕ → Bool) (front cs : List ℕ) → Any p front → run p (front ++ cs) ≡ front ++ run p cs
run_passes p [] cs each = refl
run_passes p (c ∷ front) cs each = run_more p c (front ++ cs) each.0 ∙ ap (λ ds. c ∷ ds) (run_passes p front cs each.1)

pub behind_passes : (p : ℕ → Bool) (front cs : List ℕ) → Any p front → behind_run p (front ++ cs) ≡ behind_run p cs
behind_passes p [] cs each = refl
behind_passes p (c ∷ front) cs each = behind_more p c (front ++ cs) each.0 ∙ behind_passes p front cs each.1

pub all_are_of : (p : ℕ → Bool) (cs : List ℕ) → list_all p cs ≡ true → Any p cs
all_are_of p [] each = tt
all_are_of p (c ∷ cs) each = let parts = and_parts (p c) (list_all p cs) each in (parts.0, all_are_of p cs parts.1)

pub of_are_all : (p : ℕ → Bool) (cs : List ℕ) → Any p cs → list_all p cs ≡ true
of_are_all p [] each = refl
of_are_all p (c ∷ cs) each = rw (each.0, of_are_all p cs each.1)

-- a class that has all of another goes on behind a run of that other
pub wider_passes : (p wide : ℕ → Bool) (cs : List ℕ) → ((c : ℕ) → p c ≡ true → wide c ≡ true) → Any p cs → Any wide cs
wider_passes p wide [] holds each = tt
wider_passes p wide (c ∷ cs) holds each = (holds c each.0, wider_passes p wide cs holds each.1)

pub same_left : {X : Type 0} (at : Option (X × List ℕ)) (x : X) (y : X) (left others : List ℕ) → at ≡ Some (x, left) → at ≡ Some (y, others) → left ≡ others
same_left at x y left others one two = pair_second x y left others (sym one ∙ two)

pub same_length : (left others : List ℕ) → left ≡ others → length left ≤ length others
same_length left others same = omega (arith, ap length same)
