-- Numbers that are read from a line.
use Rattle.std.proofs.Common.{◌≡◌, ◌∙◌, ℕ, zero, suc, ◌<◌, ◌^◌, List, [], ◌∷◌, ◌++◌, length, drop, get_or, Bor, Option, Some, MatchOption, sym, subst, arith}
use Rattle.std.specs.Char.{digit_value}
use Rattle.std.specs.Fmt.{decimal}
use Rattle.std.specs.Str.Parse.{AllDigits}
use Rattle.std.specs.Str.Pattern.{FindsTextPrefix}
use Rattle.std.proofs.lemmas.Fmt.{decimal_is_IsNumeral}
use Rattle.std.proofs.lemmas.List.{append_cancel_left}
use Rattle.std.proofs.lemmas.Str.Pattern.{IsSplitOnceResult, split_after}
use Rattle.mf_history.specs.Numbers.{IsEnd}

digit_at : (ds : List ℕ) (i : ℕ) → AllDigits 10 ds → i < length ds → digit_value (get_or ds i 0) < 10
digit_at [] i all less = absurd (omega (arith, less))
digit_at (d ∷ ds) zero all less = all.0
digit_at (d ∷ ds) (suc i) all less = digit_at ds i all.1 (omega (arith, less))

-- what follows the words
pub after_words : (words line left more : List ℕ) (k : ℕ) → FindsTextPrefix words line (Some k) → left ≡ drop k line → line ≡ words ++ more → left ≡ more
after_words words line left more k found is same = is ∙ append_cancel_left words (drop k line) more (sym found.1 ∙ same)

module _ (end n : ℕ) (rest : List ℕ) (ends : IsEnd end) (small : n < 2 ^ 64) where
  -- the digits and what follows them, where a text is split at the end of the digits
  pub split_digits : (left : List ℕ) (r : Option (Bor (List ℕ) × Bor (List ℕ))) → IsSplitOnceResult end left r → left ≡ decimal n ++ end ∷ rest
      → MatchOption r ⊥ (λ parts. (parts.0.now ≡ decimal n) × (parts.1.now ≡ rest))
  split_digits left r split is =
      split_after end left (decimal n) rest r split ends.0 is
      (λ i less same. ends.1 (subst (λ b. digit_value b < 10) same (digit_at (decimal n) i (decimal_is_IsNumeral n small).0.1 less)))
