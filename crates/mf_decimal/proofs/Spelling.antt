-- A text is one number literal at most, and its parts are those that stand first.
use Rattle.std.proofs.Common.{◌≡◌, ℕ, ◌<◌, Bool, true, false, List, [], ◌∷◌, ◌++◌, refl, sym, ap, ◌∙◌, subst, arith, ⊎_elim, ◌⊎◌, length, IsTrue, ◌↔◌, cond, inl, inr}
use Rattle.std.specs.Prelude.{◌==◌, ◌||◌}
use Rattle.std.specs.Char.{digit_value}
use Rattle.std.specs.Str.Parse.{AllDigits}
use Rattle.std.proofs.lemmas.Str.Parse.{digit_from_value}
use Rattle.std.proofs.lemmas.Bool.Decides.{nat_tests}
use Rattle.std.proofs.lemmas.Bool.{false≢true}
use Rattle.std.proofs.lemmas.List.{append-nil}
use Rattle.mf_decimal.specs.Grammar.{Literal, Spells, IsNumber, SpellsSign, SpellsWhole, SpellsFraction, SpellsExponent, SpellsExponentSign}
use Rattle.mf_decimal.specs.Parts.{BeginsNoDigit, BeginsNoPoint, IsBarePoint, IsDigits, is_minus, after_minus, after_exponent_sign, LeavesFraction, IsExponent}

pub head_of : (a b : ℕ) (xs ys : List ℕ) → a ∷ xs ≡ b ∷ ys → a ≡ b
head_of a b xs ys e = cc

pub tail_of : (a b : ℕ) (xs ys : List ℕ) → a ∷ xs ≡ b ∷ ys → xs ≡ ys
tail_of a b xs ys e = cc

pub no_cons : (a : ℕ) (xs : List ℕ) → [] ≡ a ∷ xs → ⊥
no_cons a xs e = cc

-- what begins with no digit doesn't begin with this one
no_digit_first : (rest : List ℕ) (c : ℕ) (cs : List ℕ) → BeginsNoDigit rest → digit_value c < 10 → rest ≡ c ∷ cs → ⊥
no_digit_first [] c cs n d e = no_cons c cs e
no_digit_first (x ∷ xs) c cs n d e = n (rw (head_of x c xs cs e) d)

-- the digits at the front, as many as there are, are one list
pub same_digits : (f g r s : List ℕ) → AllDigits 10 f → AllDigits 10 g → BeginsNoDigit r → BeginsNoDigit s → f ++ r ≡ g ++ s → (f ≡ g) × (r ≡ s)
same_digits [] [] r s p q n m e = (refl, e)
same_digits [] (d ∷ g) r s p q n m e = absurd (no_digit_first r d (g ++ s) n q.0 e)
same_digits (c ∷ f) [] r s p q n m e = absurd (no_digit_first s c (f ++ r) m p.0 (sym e))
same_digits (c ∷ f) (d ∷ g) r s p q n m e =
    let rests = same_digits f g r s p.1 q.1 n m (tail_of c d (f ++ r) (g ++ s) e) in
    let first = head_of c d (f ++ r) (g ++ s) e in
    (cc (rests.0, first), rests.1)

-- a sign and then whole digits: the sign is what the first byte says
sign_cut : (text sign whole tail : List ℕ) (minus : Bool) → SpellsSign sign minus → SpellsWhole whole → text ≡ sign ++ (whole ++ tail) → (after_minus text ≡ whole ++ tail) × (is_minus text ≡ minus)
sign_cut text sign whole tail true s w e =
    let all : text ≡ 45 ∷ (whole ++ tail) = e ∙ ap (λ (t : List ℕ). t ++ (whole ++ tail)) s in
    (ap after_minus all, ap is_minus all)
sign_cut text sign [] tail false s w e = absurd w
sign_cut text sign (d ∷ ds) tail false s w e =
    let all : text ≡ d ∷ (ds ++ tail) = e ∙ ap (λ (t : List ℕ). t ++ (d ∷ (ds ++ tail))) s in
    let digit = digit_from_value d w.0.0 in
    let other : (d == 45) ≡ false = grind (arith, nat_tests) in
    (ap after_minus all ∙ rw other refl, ap is_minus all ∙ other)

exponent_first : (text digits : List ℕ) (minus : Bool) → SpellsExponent text digits minus → BeginsNoDigit text × BeginsNoPoint text
exponent_first text [] minus h = let P : List ℕ → Type 0 = λ t. BeginsNoDigit t × BeginsNoPoint t in subst P (sym h.0) (tt, tt)
exponent_first text (d ∷ ds) minus h =
    let P : List ℕ → Type 0 = λ t. BeginsNoDigit t × BeginsNoPoint t in
    let Q : ℕ → Type 0 = λ m. BeginsNoDigit (m ∷ (h.sign ++ (d ∷ ds))) × BeginsNoPoint (m ∷ (h.sign ++ (d ∷ ds))) in
    subst P (sym h.parts)
    (⊎_elim
    (λ (e : h.mark ≡ 101). subst Q (sym e) (λ small. absurd (omega arith), λ same. absurd (omega arith)))
    (λ (e : h.mark ≡ 69). subst Q (sym e) (λ small. absurd (omega arith), λ same. absurd (omega arith)))
    h.is_mark)

-- what follows the whole digits begins with no digit
pub tail_first : (ft et f e : List ℕ) (minus : Bool) → SpellsFraction ft f → SpellsExponent et e minus → BeginsNoDigit (ft ++ et)
tail_first ft et [] e minus sf se = let P : List ℕ → Type 0 = λ t. BeginsNoDigit (t ++ et) in subst P (sym sf) (exponent_first et e minus se).0
tail_first ft et (d ∷ ds) e minus sf se =
    let P : List ℕ → Type 0 = λ t. BeginsNoDigit (t ++ et) in
    subst P (sym sf.1) (λ small. absurd (omega arith))

pub whole_digits : (whole : List ℕ) → SpellsWhole whole → AllDigits 10 whole
whole_digits [] w = absurd w
whole_digits (d ∷ ds) w = w.0

-- the parts of a literal are those that stand first: its sign
pub minus_of : (text : List ℕ) (number : Literal) → Spells text number → is_minus text ≡ number.minus
minus_of text number s = (sign_cut text s.sign number.whole (s.fraction ++ s.exponent) number.minus s.is_sign s.is_whole s.parts).1

-- its whole digits
pub whole_of : (text front rest : List ℕ) (number : Literal) (s : Spells text number) → after_minus text ≡ front ++ rest → AllDigits 10 front → BeginsNoDigit rest → (front ≡ number.whole) × (rest ≡ s.fraction ++ s.exponent)
whole_of text front rest number s e all longest =
    let cut = (sign_cut text s.sign number.whole (s.fraction ++ s.exponent) number.minus s.is_sign s.is_whole s.parts).0 in
    same_digits front number.whole rest (s.fraction ++ s.exponent) all (whole_digits number.whole s.is_whole) longest
    (tail_first s.fraction s.exponent number.fraction number.exponent number.exponent_minus s.is_fraction s.is_exponent) (sym e ∙ cut)

-- its fraction digits
pub fraction_of : (tail ft et f e digits rest : List ℕ) (minus : Bool) → SpellsFraction ft f → SpellsExponent et e minus → tail ≡ ft ++ et → LeavesFraction tail digits rest → (digits ≡ f) × (rest ≡ et)
fraction_of tail ft et [] e [] rest minus sf se p l =
    let left : tail ≡ rest = l.parts ∙ ap (λ (t : List ℕ). t ++ rest) l.spelled in
    let right : tail ≡ et = p ∙ ap (λ (t : List ℕ). t ++ et) sf in
    (refl, sym left ∙ right)
fraction_of tail ft et (d ∷ ds) e [] rest minus sf se p l =
    let left : tail ≡ rest = l.parts ∙ ap (λ (t : List ℕ). t ++ rest) l.spelled in
    let right : tail ≡ 46 ∷ (d ∷ (ds ++ et)) = p ∙ ap (λ (t : List ℕ). t ++ et) sf.1 in
    let no_point = subst BeginsNoPoint (sym left ∙ right) (l.whole refl) in
    absurd (no_point refl)
fraction_of tail ft et [] e (c ∷ cs) rest minus sf se p l =
    let left : tail ≡ 46 ∷ (c ∷ (cs ++ rest)) = l.parts ∙ ap (λ (t : List ℕ). t ++ rest) l.spelled.1 in
    let right : tail ≡ et = p ∙ ap (λ (t : List ℕ). t ++ et) sf in
    let no_point = subst BeginsNoPoint (sym right ∙ left) (exponent_first et e minus se).1 in
    absurd (no_point refl)
fraction_of tail ft et (d ∷ ds) e (c ∷ cs) rest minus sf se p l =
    let left : tail ≡ 46 ∷ (c ∷ (cs ++ rest)) = l.parts ∙ ap (λ (t : List ℕ). t ++ rest) l.spelled.1 in
    let right : tail ≡ 46 ∷ (d ∷ (ds ++ et)) = p ∙ ap (λ (t : List ℕ). t ++ et) sf.1 in
    same_digits (c ∷ cs) (d ∷ ds) rest et l.spelled.0 sf.0 (l.longest (λ none. no_cons c cs (sym none))) (exponent_first et e minus se).0
    (tail_of 46 46 (c ∷ (cs ++ rest)) (d ∷ (ds ++ et)) (sym left ∙ right))

-- a point with no digit after it is no fraction
pub no_bare_point : (tail ft et f e : List ℕ) (minus : Bool) → SpellsFraction ft f → SpellsExponent et e minus → tail ≡ ft ++ et → IsBarePoint tail → ⊥
no_bare_point tail ft et [] e minus sf se p bare =
    let right : tail ≡ et = p ∙ ap (λ (t : List ℕ). t ++ et) sf in
    point_clash et (exponent_first et e minus se).1 (subst IsBarePoint right bare)
  where
    point_clash : (text : List ℕ) → BeginsNoPoint text → IsBarePoint text → ⊥
    point_clash [] n b = b
    point_clash (c ∷ cs) n b = n b.0
no_bare_point tail ft et (d ∷ ds) e minus sf se p bare =
    let right : tail ≡ 46 ∷ (d ∷ (ds ++ et)) = p ∙ ap (λ (t : List ℕ). t ++ et) sf.1 in
    (subst IsBarePoint right bare).1 sf.0.0

-- the sign of an exponent before digits is what the first byte says
exponent_sign_cut : (signed sign : List ℕ) (minus : Bool) (d : ℕ) (ds : List ℕ) → digit_value d < 10 → SpellsExponentSign sign minus → signed ≡ sign ++ (d ∷ ds) → (d ∷ ds ≡ after_exponent_sign signed) × (minus ≡ is_minus signed)
exponent_sign_cut signed sign true d ds small s e =
    let all : signed ≡ 45 ∷ (d ∷ ds) = e ∙ ap (λ (t : List ℕ). t ++ (d ∷ ds)) s in
    (sym (ap after_exponent_sign all), sym (ap is_minus all))
exponent_sign_cut signed sign false d ds small s e =
    ⊎_elim
    (λ (none : sign ≡ []).
    let all : signed ≡ d ∷ ds = e ∙ ap (λ (t : List ℕ). t ++ (d ∷ ds)) none in
    let digit = digit_from_value d small in
    let other : (d == 45) ≡ false = grind (arith, nat_tests) in
    let another : (d == 43) ≡ false = grind (arith, nat_tests) in
    (sym (ap after_exponent_sign all ∙ rw (other, another) refl), sym (ap is_minus all ∙ other)))
    (λ (plus : sign ≡ 43 ∷ []).
    let all : signed ≡ 43 ∷ (d ∷ ds) = e ∙ ap (λ (t : List ℕ). t ++ (d ∷ ds)) plus in
    (sym (ap after_exponent_sign all), sym (ap is_minus all)))
    s

-- the digits of an exponent are what follows its mark and its sign
pub exponent_of : (text : List ℕ) (mark : ℕ) (signed digits : List ℕ) (minus : Bool) → text ≡ mark ∷ signed → SpellsExponent text digits minus → IsDigits (after_exponent_sign signed) × (digits ≡ after_exponent_sign signed) × (minus ≡ is_minus signed)
exponent_of text mark signed [] minus e s = absurd (no_cons mark signed (sym s.0 ∙ e))
exponent_of text mark signed (d ∷ ds) minus e s =
    let cut = exponent_sign_cut signed s.sign minus d ds s.all_digits.0 s.is_sign (tail_of mark s.mark signed (s.sign ++ (d ∷ ds)) (sym e ∙ s.parts)) in
    (subst IsDigits cut.0 s.all_digits, cut.0, cut.1)

no_exponent : (digits : List ℕ) (minus : Bool) → SpellsExponent [] digits minus → (digits ≡ []) × (minus ≡ false)
no_exponent [] minus s = (refl, s.1)
no_exponent (d ∷ ds) minus s = absurd (no_cons s.mark (s.sign ++ (d ∷ ds)) s.parts)

pub same_exponent : (text e e' : List ℕ) (m m' : Bool) → SpellsExponent text e m → SpellsExponent text e' m' → (e ≡ e') × (m ≡ m')
same_exponent [] e e' m m' s s' =
    let left = no_exponent e m s in
    let right = no_exponent e' m' s' in
    (left.0 ∙ sym right.0, left.1 ∙ sym right.1)
same_exponent (c ∷ cs) e e' m m' s s' =
    let left = exponent_of (c ∷ cs) c cs e m refl s in
    let right = exponent_of (c ∷ cs) c cs e' m' refl s' in
    (left.1 ∙ sym right.1, left.2 ∙ sym right.2)

all_of : (bs : List ℕ) → IsDigits bs → AllDigits 10 bs
all_of [] h = absurd h
all_of (d ∷ ds) h = h

-- the text is digits alone exactly where it begins with digits and nothing follows them
pub digits_alone : (bytes digits rest : List ℕ) (result : Bool) → bytes ≡ digits ++ rest → AllDigits 10 digits → BeginsNoDigit rest → false ≡ (length digits == 0) → result ≡ (length rest == 0) → IsTrue result ↔ IsDigits bytes
digits_alone bytes [] rest result e all longest some none = absurd (false≢true some)
digits_alone bytes (d ∷ ds) [] result e all longest some none =
    (λ _. subst IsDigits (sym (e ∙ append-nil (d ∷ ds))) all, λ _. none)
digits_alone bytes (d ∷ ds) (c ∷ cs) result e all longest some none = (
  λ yes. absurd (false≢true (grind (arith, nat_tests))),
  λ is.
      let same = same_digits bytes (d ∷ ds) [] (c ∷ cs) (all_of bytes is) all tt longest (append-nil bytes ∙ e) in
      absurd (no_cons c cs same.1),
)

-- a sign stands before what follows it
sign_cases : (c : ℕ) (cs : List ℕ) (minus plus : Bool) → (minus ≡ true → c ≡ 45) → (plus ≡ true → c ≡ 43) → (sign : List ℕ) × (c ∷ cs ≡ sign ++ cond (minus || plus) cs (c ∷ cs)) × SpellsExponentSign sign minus
sign_cases c cs true plus m p = (45 ∷ [], ap (λ (x : ℕ). x ∷ cs) (m refl), refl)
sign_cases c cs false true m p = (43 ∷ [], ap (λ (x : ℕ). x ∷ cs) (p refl), inr refl)
sign_cases c cs false false m p = ([], refl, inl refl)

sign_before : (signed : List ℕ) → (sign : List ℕ) × (signed ≡ sign ++ after_exponent_sign signed) × SpellsExponentSign sign (is_minus signed)
sign_before [] = ([], refl, inl refl)
sign_before (c ∷ cs) = sign_cases c cs (c == 45) (c == 43) (λ t. grind (arith, nat_tests)) (λ t. grind (arith, nat_tests))

power : (text : List ℕ) (mark : ℕ) (sign digits : List ℕ) (minus : Bool) → text ≡ mark ∷ (sign ++ digits) → (mark ≡ 101) ⊎ (mark ≡ 69) → SpellsExponentSign sign minus → IsDigits digits → SpellsExponent text digits minus
power text mark sign [] minus e m s d = absurd d
power text mark sign (c ∷ cs) minus e m s d = record { mark = mark; sign = sign; parts = e; is_mark = m; is_sign = s; all_digits = d }

-- a mark, a sign and digits are an exponent
pub exponent_spelled : (text : List ℕ) (mark : ℕ) (signed digits : List ℕ) (minus : Bool) → text ≡ mark ∷ signed → (mark ≡ 101) ⊎ (mark ≡ 69) → digits ≡ after_exponent_sign signed → minus ≡ is_minus signed → IsDigits digits → SpellsExponent text digits minus
exponent_spelled text mark signed digits minus e m d n is =
    let s = sign_before signed in
    let S : Bool → Type 0 = λ b. SpellsExponentSign s.0 b in
    power text mark s.0 digits minus (e ∙ ap (λ (t : List ℕ). mark ∷ t) (s.1 ∙ ap (λ (t : List ℕ). s.0 ++ t) (sym d))) m (subst S (sym n) s.2) is

-- a point and the digits after it are a fraction
pub fraction_spelled : (text digits rest : List ℕ) → text ≡ 46 ∷ (digits ++ rest) → AllDigits 10 digits → BeginsNoDigit rest → (length digits == 0) ≡ false → LeavesFraction text digits rest
fraction_spelled text [] rest e all longest some = absurd (false≢true (sym some))
fraction_spelled text (d ∷ ds) rest e all longest some =
    record { fraction = 46 ∷ d ∷ ds; parts = e; spelled = (all, refl); whole = λ none. absurd (no_cons d ds (sym none)); longest = λ _. longest }

-- a sign that the first byte tells, and what follows it
minus_cases : (c : ℕ) (cs : List ℕ) (minus : Bool) → (minus ≡ true → c ≡ 45) → (sign : List ℕ) × (c ∷ cs ≡ sign ++ cond minus cs (c ∷ cs)) × SpellsSign sign minus
minus_cases c cs true m = (45 ∷ [], ap (λ (x : ℕ). x ∷ cs) (m refl), refl)
minus_cases c cs false m = ([], refl, refl)

minus_before : (text : List ℕ) → (sign : List ℕ) × (text ≡ sign ++ after_minus text) × SpellsSign sign (is_minus text)
minus_before [] = ([], refl, refl)
minus_before (c ∷ cs) = minus_cases c cs (c == 45) (λ t. grind (arith, nat_tests))

-- the parts, read one after the other, spell the text
pub spelled_by_parts : (text tail rest : List ℕ) (number : Literal) → number.minus ≡ is_minus text → after_minus text ≡ number.whole ++ tail → SpellsWhole number.whole → LeavesFraction tail number.fraction rest → SpellsExponent rest number.exponent number.exponent_minus → Spells text number
spelled_by_parts text tail rest number m u w f e =
    let s = minus_before text in
    let S : Bool → Type 0 = λ b. SpellsSign s.0 b in
    record {
      sign = s.0;
      fraction = f.fraction;
      exponent = rest;
      parts = s.1 ∙ ap (λ (t : List ℕ). s.0 ++ t) (u ∙ ap (λ (t : List ℕ). number.whole ++ t) f.parts);
      is_sign = subst S (sym m) s.2;
      is_whole = w;
      is_fraction = f.spelled;
      is_exponent = e;
    }

-- a text is no number literal where its first digits are no whole part,
pub no_whole : (text unsigned front rest : List ℕ) → IsNumber text → unsigned ≡ after_minus text → unsigned ≡ front ++ rest → AllDigits 10 front → BeginsNoDigit rest → SpellsWhole front
no_whole text unsigned front rest n u e all longest =
    let same = whole_of text front rest n.number n.spelled (sym u ∙ e) all longest in
    subst SpellsWhole (sym same.0) n.spelled.is_whole

-- where a point has no digit after it,
pub no_fraction : (text unsigned front rest : List ℕ) → IsNumber text → unsigned ≡ after_minus text → unsigned ≡ front ++ rest → AllDigits 10 front → BeginsNoDigit rest → IsBarePoint rest → ⊥
no_fraction text unsigned front rest n u e all longest bare =
    let s = n.spelled in
    let same = whole_of text front rest n.number s (sym u ∙ e) all longest in
    no_bare_point rest s.fraction s.exponent n.number.fraction n.number.exponent n.number.exponent_minus s.is_fraction s.is_exponent same.1 bare

-- or where what is left is no exponent
pub no_exponent_left : (text unsigned front tail digits rest : List ℕ) → IsNumber text → unsigned ≡ after_minus text → unsigned ≡ front ++ tail → AllDigits 10 front → BeginsNoDigit tail → LeavesFraction tail digits rest → IsExponent rest
no_exponent_left text unsigned front tail digits rest n u e all longest f =
    let s = n.spelled in
    let same = whole_of text front tail n.number s (sym u ∙ e) all longest in
    let cut = fraction_of tail s.fraction s.exponent n.number.fraction n.number.exponent digits rest n.number.exponent_minus s.is_fraction s.is_exponent same.1 f in
    let P : List ℕ → Type 0 = λ t. SpellsExponent t n.number.exponent n.number.exponent_minus in
    record { digits = n.number.exponent; minus = n.number.exponent_minus; spelled = subst P (sym cut.1) s.is_exponent }

-- the parts of a literal, read from its own text
pub own_tail : (text : List ℕ) (number : Literal) (s : Spells text number) → after_minus text ≡ number.whole ++ (s.fraction ++ s.exponent)
own_tail text number s = (sign_cut text s.sign number.whole (s.fraction ++ s.exponent) number.minus s.is_sign s.is_whole s.parts).0

pub leaves_own : (ft et f e : List ℕ) (minus : Bool) → SpellsFraction ft f → SpellsExponent et e minus → LeavesFraction (ft ++ et) f et
leaves_own ft et f e minus sf se =
    let first = exponent_first et e minus se in
    record { fraction = ft; parts = refl; spelled = sf; whole = λ _. first.1; longest = λ _. first.0 }
