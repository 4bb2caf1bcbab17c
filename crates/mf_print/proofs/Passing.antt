-- Parts that are written one after the other.
use Rattle.std.proofs.Common.{◌≡◌, ℕ, List, [], ◌∷◌, ◌++◌, ap, sym, ◌∙◌, Result, Ok, Err, append_assoc, subst, codes}
use Rattle.std.specs.Prelude.{OnOk}

-- a text between two bars
pub between_bars : {E : Type 0} (r : Result (Unit {0}) E) (old inner new text : List ℕ) → inner ≡ (old ++ 0x7C ∷ []) ++ text → OnOk r (new ≡ inner ++ 0x7C ∷ []) →
    OnOk r (new ≡ old ++ 0x7C ∷ (text ++ 0x7C ∷ []))
between_bars (Ok u) old inner new text is pushed =
    pushed ∙ ap (λ cs. cs ++ 0x7C ∷ []) (is ∙ append_assoc old (0x7C ∷ []) text) ∙ append_assoc old (0x7C ∷ text) (0x7C ∷ [])
between_bars (Err e) old inner new text is pushed = tt

-- parts that are written one after the other
pub two_parts : {E : Type 0} (r : Result (Unit {0}) E) (old one new a b : List ℕ) → one ≡ old ++ a → OnOk r (new ≡ one ++ b) → OnOk r (new ≡ old ++ (a ++ b))
two_parts (Ok u) old one new a b first last = last ∙ ap (λ cs. cs ++ b) first ∙ append_assoc old a b
two_parts (Err e) old one new a b first last = tt

pub three_parts : {E : Type 0} (r : Result (Unit {0}) E) (old one two new a b c : List ℕ) → one ≡ old ++ a → two ≡ one ++ b → OnOk r (new ≡ two ++ c) →
    OnOk r (new ≡ old ++ (a ++ (b ++ c)))
three_parts r old one two new a b c first second last =
    two_parts r old one new a (b ++ c) first (two_parts r one two new b c second last)

pub four_parts : {E : Type 0} (r : Result (Unit {0}) E) (old one two three new a b c d : List ℕ) → one ≡ old ++ a → two ≡ one ++ b → three ≡ two ++ c → OnOk r (new ≡ three ++ d) →
    OnOk r (new ≡ old ++ (a ++ (b ++ (c ++ d))))
four_parts r old one two three new a b c d first second third last =
    two_parts r old one new a (b ++ (c ++ d)) first (three_parts r one two three new b c d second third last)

-- `.local `, a variable, ` = ` and an expression
pub local_parts : {E : Type 0} (r : Result (Unit {0}) E) (old one two three new variable expression : List ℕ) →
    one ≡ old ++ codes ".local " → two ≡ one ++ variable → three ≡ two ++ codes " = " → OnOk r (new ≡ three ++ expression) →
    OnOk r (new ≡ old ++ (codes ".local " ++ variable ++ codes " = " ++ expression))
local_parts r old one two three new variable expression first second third last =
    subst (λ (text : List ℕ). OnOk r (new ≡ old ++ text)) (ap (λ (text : List ℕ). codes ".local " ++ text) (sym (append_assoc variable (codes " = ") expression)))
    (four_parts r old one two three new (codes ".local ") variable (codes " = ") expression first second third last)
