-- Marks of direction beside a name make no difference.
use Rattle.std.proofs.Common.{◌≡◌, ℕ, true, false, not, List, [], ◌∷◌, ◌++◌, refl, ap, sym, ◌∙◌, inl, inr, subst}
use Rattle.std.proofs.lemmas.Bool.{and_parts, cond-true, cond-false, false≢true}
use Rattle.std.proofs.lemmas.List.{append-nil}
use Rattle.std.proofs.lemmas.List.Elements.{filter-append}
use Rattle.std.specs.List.{list_all}
use Rattle.unicode_normalization.specs.Forms.{nfc}
use mathlib.Core.List.{is_set}
use native.Mathlib.Nat.{ℕ_set}
use Rattle.mf_text.proofs.Classes.{name_char_is_no_mark, name_start_is_name_char}
use Rattle.mf_text.specs.Characters.{is_bidi, is_name_start, is_name_char}
use Rattle.mf_text.specs.Languages.{Optional, One}
use Rattle.mf_text.specs.Grammar.{is_bare_name, SpellsName}
use Rattle.mf_tree.specs.declared.name.Name.{Name}
use Rattle.mf_tree.specs.Laws.{without_marks}

kept : (c : ℕ) (cs : List ℕ) → is_bidi c ≡ false → without_marks (c ∷ cs) ≡ c ∷ without_marks cs
kept c cs other = cond-true (not (is_bidi c)) _ _ (ap not other)

dropped : (c : ℕ) (cs : List ℕ) → is_bidi c ≡ true → without_marks (c ∷ cs) ≡ without_marks cs
dropped c cs mark = cond-false (not (is_bidi c)) _ _ (ap not mark)

of_name_chars : (cs : List ℕ) → list_all is_name_char cs ≡ true → without_marks cs ≡ cs
of_name_chars [] each = refl
of_name_chars (c ∷ cs) each =
    let parts = and_parts (is_name_char c) (list_all is_name_char cs) each in
    kept c cs (name_char_is_no_mark c parts.0) ∙ ap (λ cs. c ∷ cs) (of_name_chars cs parts.1)

of_bare_name : (cs : List ℕ) → is_bare_name cs ≡ true → without_marks cs ≡ cs
of_bare_name [] is = absurd (false≢true is)
of_bare_name (c ∷ cs) is =
    let parts = and_parts (is_name_start c) (list_all is_name_char cs) is in
    kept c cs (name_char_is_no_mark c (name_start_is_name_char c parts.0)) ∙ ap (λ cs. c ∷ cs) (of_name_chars cs parts.1)

of_mark : (text : List ℕ) → Optional (One is_bidi) text → without_marks text ≡ []
of_mark text (inl empty) = ap without_marks empty
of_mark text (inr one) = ap without_marks one.1 ∙ dropped one.0 [] one.2

-- what is left of a name's text without its marks is what it spells
of_name : (spelled text : List ℕ) → SpellsName spelled text → without_marks text ≡ spelled
of_name spelled text name =
    let rest = name.second in
    ap without_marks name.whole
    ∙ filter-append (λ c. not (is_bidi c)) name.front name.back
    ∙ ap (λ cs. cs ++ without_marks name.back) (of_mark name.front name.first)
    ∙ ap without_marks rest.whole
    ∙ filter-append (λ c. not (is_bidi c)) rest.front rest.back
    ∙ ap (λ cs. without_marks rest.front ++ cs) (of_mark rest.back rest.second)
    ∙ append-nil (without_marks rest.front)
    ∙ ap without_marks rest.first.0
    ∙ of_bare_name spelled rest.first.1

made : (spelled value : List ℕ) → value ≡ nfc spelled → Name
made spelled value is = record { spelled = spelled; value = value; in_nfc = is }

same_made : (spelled value other : List ℕ) (is : value ≡ nfc spelled) (is_too : other ≡ nfc spelled) → value ≡ other → made spelled value is ≡ made spelled other is_too
same_made spelled value other is is_too same =
    subst (λ (other : List ℕ). (is_too : other ≡ nfc spelled) → made spelled value is ≡ made spelled other is_too) same
    (λ is_too. ap (made spelled value) (is_set ℕ_set _ _ is is_too)) is_too

same_spelled : (spelled spelling value other : List ℕ) (is : value ≡ nfc spelled) (is_too : other ≡ nfc spelling) → spelled ≡ spelling → made spelled value is ≡ made spelling other is_too
same_spelled spelled spelling value other is is_too same =
    subst (λ (spelling : List ℕ). (is_too : other ≡ nfc spelling) → made spelled value is ≡ made spelling other is_too) same
    (λ is_too. same_made spelled value other is is_too (is ∙ sym is_too)) is_too

-- names that are spelled alike are one
pub same_name : (one other : Name) → one.spelled ≡ other.spelled → one ≡ other
unfolding made
same_name one other same = same_spelled one.spelled other.spelled one.value other.value one.in_nfc other.in_nfc same

pub same : (one other : Name) (text others : List ℕ) → SpellsName one.spelled text → SpellsName other.spelled others → without_marks text ≡ without_marks others → one ≡ other
same one other text others first second alike = same_name one other (sym (of_name one.spelled text first) ∙ alike ∙ of_name other.spelled others second)
