-- Bytes that are put one after the other at the end of others.
use Rattle.std.proofs.Common.{◌≡◌, List, ◌++◌, sym, ap, ◌∙◌}
use Rattle.std.proofs.lemmas.List.{append_assoc}

module _ {A : Type 0} where
  pub two : (start a b x y : List A) → x ≡ start ++ a → y ≡ x ++ b → y ≡ start ++ (a ++ b)
  two start a b x y e f = f ∙ ap (λ l. l ++ b) e ∙ append_assoc start a b

  pub three : (start a b c d x y z : List A) → x ≡ start ++ a → y ≡ x ++ b → z ≡ y ++ (c ++ d) → z ≡ start ++ ((a ++ (b ++ c)) ++ d)
  three start a b c d x y z e f g =
      let both : y ≡ start ++ (a ++ b) = two start a b x y e f in
      two start (a ++ b) (c ++ d) y z both g
      ∙ ap (λ l. start ++ l) (append_assoc a b (c ++ d) ∙ ap (λ l. a ++ l) (sym (append_assoc b c d)) ∙ sym (append_assoc a (b ++ c) d))

  -- one more piece behind nine
  pub nine : (a b c d e f g h i p q r s t u v w : List A) → p ≡ a ++ b → q ≡ p ++ c → r ≡ q ++ d → s ≡ r ++ e → t ≡ s ++ f → u ≡ t ++ g → v ≡ u ++ h
      → w ≡ v ++ i → w ≡ a ++ (b ++ (c ++ (d ++ (e ++ (f ++ (g ++ (h ++ i)))))))
  nine a b c d e f g h i p q r s t u v w e1 e2 e3 e4 e5 e6 e7 e8 =
      let s2 : q ≡ a ++ (b ++ c) = two a b c p q e1 e2 in
      let s3 : r ≡ a ++ ((b ++ c) ++ d) = two a (b ++ c) d q r s2 e3 in
      let s4 : s ≡ a ++ (((b ++ c) ++ d) ++ e) = two a ((b ++ c) ++ d) e r s s3 e4 in
      let s5 : t ≡ a ++ ((((b ++ c) ++ d) ++ e) ++ f) = two a (((b ++ c) ++ d) ++ e) f s t s4 e5 in
      let s6 : u ≡ a ++ (((((b ++ c) ++ d) ++ e) ++ f) ++ g) = two a ((((b ++ c) ++ d) ++ e) ++ f) g t u s5 e6 in
      let s7 : v ≡ a ++ ((((((b ++ c) ++ d) ++ e) ++ f) ++ g) ++ h) = two a (((((b ++ c) ++ d) ++ e) ++ f) ++ g) h u v s6 e7 in
      let s8 : w ≡ a ++ (((((((b ++ c) ++ d) ++ e) ++ f) ++ g) ++ h) ++ i) = two a ((((((b ++ c) ++ d) ++ e) ++ f) ++ g) ++ h) i v w s7 e8 in
      s8 ∙ ap (λ l. a ++ l) (right b c d e f g h i)
    where
      right : (b c d e f g h i : List A) → ((((((b ++ c) ++ d) ++ e) ++ f) ++ g) ++ h) ++ i ≡ b ++ (c ++ (d ++ (e ++ (f ++ (g ++ (h ++ i))))))
      right b c d e f g h i =
          append_assoc (((((b ++ c) ++ d) ++ e) ++ f) ++ g) h i
          ∙ append_assoc ((((b ++ c) ++ d) ++ e) ++ f) g (h ++ i)
          ∙ append_assoc (((b ++ c) ++ d) ++ e) f (g ++ (h ++ i))
          ∙ append_assoc ((b ++ c) ++ d) e (f ++ (g ++ (h ++ i)))
          ∙ append_assoc (b ++ c) d (e ++ (f ++ (g ++ (h ++ i))))
          ∙ append_assoc b c (d ++ (e ++ (f ++ (g ++ (h ++ i)))))
