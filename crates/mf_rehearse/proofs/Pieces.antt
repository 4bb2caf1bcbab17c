-- Bytes that are put at the end, one after the other.
use Rattle.std.proofs.Common.{◌≡◌, ◌∙◌, ℕ, zero, suc, ◌+◌, List, [], ◌∷◌, ◌++◌, drop, length, Some, slice_get, codes, decimal, refl, ap, sym, arith}
use Rattle.std.proofs.lemmas.List.{append_assoc}
use Rattle.mf_edition.specs.declared.change.Entry.{Entry}
use Rattle.mf_lines.specs.Served.{ended}
use Rattle.mf_rehearse.specs.Prints.{entry_line, log_print}
use Rattle.mf_wire.specs.Replies.{op_name, op_of}

module _ {A : Type 0} where
  -- a piece and then a rest
  pub two : (start a b x y : List A) → x ≡ start ++ a → y ≡ x ++ b → y ≡ start ++ (a ++ b)
  two start a b x y e f = f ∙ ap (λ l. l ++ b) e ∙ append_assoc start a b

  -- nine pieces
  nine : (start a b c d e f g h i p q r s t u v w x : List A) → p ≡ start ++ a → q ≡ p ++ b → r ≡ q ++ c → s ≡ r ++ d → t ≡ s ++ e → u ≡ t ++ f
      → v ≡ u ++ g → w ≡ v ++ h → x ≡ w ++ i → x ≡ start ++ (a ++ (b ++ (c ++ (d ++ (e ++ (f ++ (g ++ (h ++ i))))))))
  nine start a b c d e f g h i p q r s t u v w x e1 e2 e3 e4 e5 e6 e7 e8 e9 =
      let y8 = two v h i w x e8 e9 in
      let y7 = two u g (h ++ i) v x e7 y8 in
      let y6 = two t f (g ++ (h ++ i)) u x e6 y7 in
      let y5 = two s e (f ++ (g ++ (h ++ i))) t x e5 y6 in
      let y4 = two r d (e ++ (f ++ (g ++ (h ++ i)))) s x e4 y5 in
      let y3 = two q c (d ++ (e ++ (f ++ (g ++ (h ++ i))))) r x e3 y4 in
      let y2 = two p b (c ++ (d ++ (e ++ (f ++ (g ++ (h ++ i)))))) q x e2 y3 in
      two start a (b ++ (c ++ (d ++ (e ++ (f ++ (g ++ (h ++ i))))))) p x e1 y2

  -- what stands behind nine pieces stands behind the last
  behind : (a b c d e f g h i z : List A)
      → (a ++ (b ++ (c ++ (d ++ (e ++ (f ++ (g ++ (h ++ i)))))))) ++ z ≡ a ++ (b ++ (c ++ (d ++ (e ++ (f ++ (g ++ (h ++ (i ++ z))))))))
  behind a b c d e f g h i z =
      append_assoc a (b ++ (c ++ (d ++ (e ++ (f ++ (g ++ (h ++ i))))))) z
      ∙ ap (λ l. a ++ l) (append_assoc b (c ++ (d ++ (e ++ (f ++ (g ++ (h ++ i)))))) z
      ∙ ap (λ l. b ++ l) (append_assoc c (d ++ (e ++ (f ++ (g ++ (h ++ i))))) z
      ∙ ap (λ l. c ++ l) (append_assoc d (e ++ (f ++ (g ++ (h ++ i)))) z
      ∙ ap (λ l. d ++ l) (append_assoc e (f ++ (g ++ (h ++ i))) z
      ∙ ap (λ l. e ++ l) (append_assoc f (g ++ (h ++ i)) z
      ∙ ap (λ l. f ++ l) (append_assoc g (h ++ i) z
      ∙ ap (λ l. g ++ l) (append_assoc h i z)))))))

-- the line of an entry, put piece by piece at the end
pub entry_pieces : (k : ℕ) (entry : Entry) (start p q r s t u v w x name : List ℕ) → name ≡ op_name (op_of entry.change)
    → p ≡ start ++ codes "log {\"caller\":" → q ≡ p ++ decimal entry.caller → r ≡ q ++ codes ",\"change\":\"" → s ≡ r ++ name
    → t ≡ s ++ codes "\",\"edition\":" → u ≡ t ++ decimal k → v ≡ u ++ codes ",\"nth\":" → w ≡ v ++ decimal entry.nth → x ≡ w ++ codes "}\n"
    → x ≡ start ++ (codes "log " ++ ended (entry_line k entry))
entry_pieces k entry start p q r s t u v w x name is e1 e2 e3 e4 e5 e6 e7 e8 e9 =
    nine start (codes "log {\"caller\":") (decimal entry.caller) (codes ",\"change\":\"") (op_name (op_of entry.change)) (codes "\",\"edition\":") (decimal k)
    (codes ",\"nth\":") (decimal entry.nth) (codes "}\n") p q r s t u v w x e1 e2 e3 (e4 ∙ ap (λ l. r ++ l) is) e5 e6 e7 e8 e9
    ∙ ap (λ l. start ++ (codes "log " ++ l))
    (sym (behind (codes "{\"caller\":") (decimal entry.caller) (codes ",\"change\":\"") (op_name (op_of entry.change)) (codes "\",\"edition\":") (decimal k)
    (codes ",\"nth\":") (decimal entry.nth) (codes "}") (10 ∷ [])))

drop_at : (log : List Entry) (i : ℕ) (entry : Entry) → slice_get log i ≡ Some entry → drop i log ≡ entry ∷ drop (suc i) log
drop_at [] i entry is = cc
drop_at (e ∷ log) zero entry is = let same : e ≡ entry = some_same e entry is in ap (λ z. z ∷ log) same
  where
    some_same : (a b : Entry) → Some a ≡ Some b → a ≡ b
    some_same a b is = cc
drop_at (e ∷ log) (suc i) entry is = drop_at log i entry is

-- one entry's line more
pub entry_more : (log : List Entry) (i : ℕ) (entry : Entry) (old new : List ℕ) → slice_get log i ≡ Some entry
    → new ≡ old ++ (codes "log " ++ ended (entry_line (i + 1) entry))
    → new ++ log_print (i + 1 + 1) (drop (i + 1) log) ≡ old ++ log_print (i + 1) (drop i log)
entry_more log i entry old new there is =
    let next : i + 1 ≡ suc i = omega arith in
    ap (λ l. l ++ log_print (i + 1 + 1) (drop (i + 1) log)) is
    ∙ append_assoc old (codes "log " ++ ended (entry_line (i + 1) entry)) (log_print (i + 1 + 1) (drop (i + 1) log))
    ∙ ap (λ (n : ℕ). old ++ ((codes "log " ++ ended (entry_line (i + 1) entry)) ++ log_print (i + 1 + 1) (drop n log))) next
    ∙ ap (λ (l : List Entry). old ++ log_print (i + 1) l) (sym (drop_at log i entry there))

-- nothing is left behind the last
pub drop_all : (log : List Entry) (i : ℕ) → length log ≡ i → drop i log ≡ []
drop_all [] i is = let none : i ≡ 0 = omega (arith, is) in ap (λ (n : ℕ). drop n []) none
drop_all (e ∷ log) zero is = absurd (omega (arith, is))
drop_all (e ∷ log) (suc i) is = drop_all log i (omega (arith, is))

pub append_nil : (l : List ℕ) → l ++ [] ≡ l
append_nil [] = refl
append_nil (x ∷ l) = ap (λ m. x ∷ m) (append_nil l)
