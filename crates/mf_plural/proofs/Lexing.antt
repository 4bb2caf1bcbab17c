-- A text cut into its tokens, one after the other.
use Rattle.std.proofs.Common.{◌≡◌, ◌∙◌, ℕ, zero, suc, ◌+◌, ◌-◌, ◌<◌, ◌≤◌, inl, inr, Bool, true, false, cond, List, [], ◌∷◌, length, take, drop, get_or, ap, sym, subst, arith, add-one}
use Rattle.std.proofs.Math.Nat.{eq-or-lt_of_le}
use Rattle.std.specs.List.{onto_first}
use Rattle.std.proofs.lemmas.Bool.Decides.{nat_tests}
use Rattle.mf_plural.specs.Cuts.{BeginsWithToken}
use Rattle.mf_plural.specs.Computed.{are_joined, lexemes}
use Rattle.mf_plural.specs.Grammar.{is_white}

pub past_white : (c : ℕ) (cs : List ℕ) → is_white c ≡ true → lexemes (c ∷ cs) ≡ lexemes cs
past_white c [] white = ap (λ (b : Bool). cond b [] ((c ∷ []) ∷ [])) white
past_white c (d ∷ cs) white =
    ap (λ (b : Bool). cond b (lexemes (d ∷ cs)) (cond (are_joined c d) (onto_first c (lexemes (d ∷ cs))) ((c ∷ []) ∷ lexemes (d ∷ cs)))) white

joined_no_white : (c d : ℕ) → are_joined c d ≡ true → is_white d ≡ false
joined_no_white c d joined = grind (arith, nat_tests, joined)

below_suc : {n m : ℕ} → n < m → suc n < suc m
below_suc h = omega (arith, h)

-- the token at the front: its bytes are joined, and the last one isn't joined to the next
pub first_lexeme : (m : ℕ) (xs : List ℕ) → suc m ≤ length xs → BeginsWithToken xs
    → ((k : ℕ) → k < m → are_joined (get_or xs k 0) (get_or xs (suc k) 0) ≡ true)
    → (suc m < length xs → are_joined (get_or xs m 0) (get_or xs (suc m) 0) ≡ false)
    → lexemes xs ≡ take (suc m) xs ∷ lexemes (drop (suc m) xs)
first_lexeme m [] within begins chain end = absurd (omega (arith, within))
first_lexeme zero (c ∷ []) within begins chain end = ap (λ (b : Bool). cond b [] ((c ∷ []) ∷ [])) begins
first_lexeme zero (c ∷ d ∷ cs) within begins chain end =
    ap (λ (b : Bool). cond b (lexemes (d ∷ cs)) (cond (are_joined c d) (onto_first c (lexemes (d ∷ cs))) ((c ∷ []) ∷ lexemes (d ∷ cs)))) begins
    ∙ ap (λ (b : Bool). cond b (onto_first c (lexemes (d ∷ cs))) ((c ∷ []) ∷ lexemes (d ∷ cs))) (end (omega arith))
first_lexeme (suc m) (c ∷ []) within begins chain end = absurd (omega (arith, within))
first_lexeme (suc m) (c ∷ d ∷ cs) within begins chain end =
    let joined : are_joined c d ≡ true = chain 0 (omega arith) in
    let rest = first_lexeme m (d ∷ cs) (omega (arith, within)) (joined_no_white c d joined) (λ k h. chain (suc k) (below_suc h)) (λ h. end (below_suc h)) in
    ap (λ (b : Bool). cond b (lexemes (d ∷ cs)) (cond (are_joined c d) (onto_first c (lexemes (d ∷ cs))) ((c ∷ []) ∷ lexemes (d ∷ cs)))) begins
    ∙ ap (λ (b : Bool). cond b (onto_first c (lexemes (d ∷ cs))) ((c ∷ []) ∷ lexemes (d ∷ cs))) joined
    ∙ ap (onto_first c) rest

-- the chain of joined bytes grows by one
pub more_joined : (xs : List ℕ) (len : ℕ) → 0 < len
    → ((k : ℕ) → k + 1 < len → are_joined (get_or xs k 0) (get_or xs (k + 1) 0) ≡ true)
    → are_joined (get_or xs (len - 1) 0) (get_or xs len 0) ≡ true
    → (k : ℕ) → k + 1 < len + 1 → are_joined (get_or xs k 0) (get_or xs (k + 1) 0) ≡ true
more_joined xs len some chain next k within = elim (eq-or-lt_of_le {n = k + 1} {m = len} (omega (arith, within))) [
  | inl last ↦
      let here : len - 1 ≡ k = omega (arith, last) in
      subst (λ n. are_joined (get_or xs k 0) (get_or xs n 0) ≡ true) (sym last) (subst (λ n. are_joined (get_or xs n 0) (get_or xs len 0) ≡ true) here next)
  | inr before ↦ chain k before
]

-- the token at the front, of so many bytes
pub lexeme_here : (xs : List ℕ) (len : ℕ) → 0 < len → len ≤ length xs → BeginsWithToken xs
    → ((k : ℕ) → k + 1 < len → are_joined (get_or xs k 0) (get_or xs (k + 1) 0) ≡ true)
    → (len < length xs → are_joined (get_or xs (len - 1) 0) (get_or xs len 0) ≡ false)
    → lexemes xs ≡ take len xs ∷ lexemes (drop len xs)
lexeme_here xs zero some within begins chain end = absurd (omega (arith, some))
lexeme_here xs (suc m) some within begins chain end =
    let before : suc m - 1 ≡ m = omega arith in
    first_lexeme m xs within begins
    (λ k h. rw add-one at (chain k (omega (arith, h))))
    (λ h. rw before at (end h))
