-- The first line of some bytes, by the place of the first line feed.
use Rattle.std.proofs.Common.{◌≡◌, ◌≢◌, ℕ, zero, suc, ◌+◌, ◌<◌, ◌≤◌, Bool, true, false, cond, List, [], ◌∷◌, length, take, drop, get_or, nat_eq, refl, ap, ◌∙◌, arith, add-one}
use Rattle.mf_wire.specs.Lines.{lines_of, onto_first, line_feed}

-- a byte that is no line feed
abbrev IsInLine : ℕ → Type 0
IsInLine byte = nat_eq byte line_feed ≡ false

in_line : (b : Bool) → (b ≡ true → ⊥) → b ≡ false
in_line true not_so = absurd (not_so refl)
in_line false not_so = refl

below_suc : {n m : ℕ} → n < m → suc n < suc m
below_suc h = omega (arith, h)

line_to : (bytes : List ℕ) (end : ℕ) → end < length bytes
    → ((k : ℕ) → k < end → IsInLine (get_or bytes k 0)) → nat_eq (get_or bytes end 0) line_feed ≡ true
    → lines_of bytes ≡ take end bytes ∷ lines_of (drop (suc end) bytes)
line_to [] end inside before at = absurd (omega arith)
line_to (byte ∷ bytes) zero inside before at = ap (λ b. cond b ([] ∷ lines_of bytes) (onto_first byte (lines_of bytes))) at
line_to (byte ∷ bytes) (suc end) inside before at =
    let first : IsInLine byte = before 0 (omega arith) in
    let rest : lines_of bytes ≡ take end bytes ∷ lines_of (drop (suc end) bytes) =
    line_to bytes end (omega arith) (λ k h. before (suc k) (below_suc h)) at in
    ap (λ b. cond b ([] ∷ lines_of bytes) (onto_first byte (lines_of bytes))) first ∙ ap (onto_first byte) rest

one_line : (bytes : List ℕ) → bytes ≢ [] → ((k : ℕ) → k < length bytes → IsInLine (get_or bytes k 0)) → lines_of bytes ≡ bytes ∷ []
one_line [] some each = absurd (some refl)
one_line (byte ∷ []) some each =
    ap (λ b. cond b ([] ∷ []) (onto_first byte [])) (each 0 (omega arith))
one_line (byte ∷ next ∷ bytes) some each =
    let first : IsInLine byte = each 0 (omega arith) in
    let rest : lines_of (next ∷ bytes) ≡ (next ∷ bytes) ∷ [] =
    one_line (next ∷ bytes) (λ e. cc) (λ k h. each (suc k) (below_suc h)) in
    ap (λ b. cond b ([] ∷ lines_of (next ∷ bytes)) (onto_first byte (lines_of (next ∷ bytes)))) first ∙ ap (onto_first byte) rest

-- what a search for the first line feed tells
pub found_line : (bytes : List ℕ) (end : ℕ) → end < length bytes
    → ((k : ℕ) → 0 ≤ k → k < end → nat_eq (get_or bytes k 0) line_feed ≡ true → ⊥) → nat_eq (get_or bytes end 0) line_feed ≡ true
    → lines_of bytes ≡ take end bytes ∷ lines_of (drop (end + 1) bytes)
found_line bytes end inside before at =
    rw add-one (line_to bytes end inside (λ k h. in_line _ (before k (omega arith) h)) at)

pub last_line : (bytes : List ℕ) → bytes ≢ [] → ((k : ℕ) → 0 ≤ k → k < length bytes → nat_eq (get_or bytes k 0) line_feed ≡ true → ⊥)
    → lines_of bytes ≡ bytes ∷ []
last_line bytes some nowhere = one_line bytes some (λ k h. in_line _ (nowhere k (omega arith) h))
