-- Identifiers are passed by their rule.
use Rattle.std.proofs.Common.{◌≡◌, ℕ, ◌≤◌, false, Option, Some, None, List, [], ◌∷◌, ◌++◌, refl, ap, sym, ◌∙◌, subst, length, ◌⊎◌, inl, inr, length-append, arith}
use Rattle.std.specs.Option.{option_map, option_and_then}
use Rattle.mf_text.specs.Characters.{is_name_char}
use Rattle.mf_text.specs.Languages.{Word, Begins, BeginsNone, BeginsLongest}
use Rattle.mf_text.specs.Grammar.{SpellsName, SpellsNamespace, SpellsIdentifier}
use Rattle.mf_lex.specs.declared.ident.Ident.{Ident}
use Rattle.mf_lex.specs.Computed.{is_next, run, behind_run, one_at, after_mark, name_at, second_name_at, with_first_name, identifier_at}
use Rattle.mf_lex.specs.Readers.{SpellsIdent}
use Rattle.mf_lex.proofs.Begins.{begins_whole, parted, joined}
use Rattle.mf_lex.proofs.Gathering.{nothing_found, one_parts, pair_first}
use Rattle.mf_lex.proofs.Members.{colon_is_no_name_char}
use Rattle.mf_lex.proofs.Names.{mapped_parts, reaches, reaches_length, name_reaches, name_begins, name_complete}

-- an identifier whose first name is found
with_name : (cs : List ℕ) (first : List ℕ × List ℕ) → name_at cs ≡ Some first →
    identifier_at cs ≡ Some (with_first_name first.0 first.1 (second_name_at first.1))
unfolding identifier_at
with_name cs first finds = ap (option_map (λ (first : List ℕ × List ℕ). with_first_name first.0 first.1 (second_name_at first.1))) finds

-- a second name that is found stands behind a colon
record Second (cs : List ℕ) (second : List ℕ × List ℕ) : Type 0 where
  behind : List ℕ
  split : cs ≡ 0x3A ∷ behind
  finds : name_at behind ≡ Some second

second_parts : (cs : List ℕ) (second : List ℕ × List ℕ) (o : Option (List ℕ)) → one_at 0x3A cs ≡ o → option_and_then name_at o ≡ Some second → Second cs second
second_parts cs second None colon finds = absurd (cc)
second_parts cs second (Some behind) colon finds = record { behind = behind; split = one_parts 0x3A cs behind colon; finds = finds }

second_shortens : (cs : List ℕ) (second : List ℕ × List ℕ) → Second cs second → length second.1 ≤ length cs
second_shortens cs second is =
    let begins = name_begins is.behind second.0 second.1 is.finds in
    omega (arith, ap length is.split, ap length begins.whole, length-append begins.taken second.1)

-- one name alone, and two
single : (name cs left : List ℕ) → Begins (SpellsIdentifier None name) cs left → Begins (SpellsName name) cs left
single name cs left begins =
    let parts = parted (Word []) (SpellsName name) cs left begins in
    subst (λ (ds : List ℕ). Begins (SpellsName name) ds left) (sym (parts.first.whole ∙ ap (λ ds. ds ++ parts.between) parts.first.is)) parts.second

from_single : (name cs left : List ℕ) → Begins (SpellsName name) cs left → Begins (SpellsIdentifier None name) cs left
from_single name cs left begins = joined (Word []) (SpellsName name) cs cs left (record { taken = []; whole = refl; is = refl }) begins

record Double (namespace name cs left : List ℕ) : Type 0 where
  behind : List ℕ
  first : name_at cs ≡ Some (namespace, 0x3A ∷ behind)
  second : Begins (SpellsName name) behind left

double : (namespace name cs left : List ℕ) → Begins (SpellsIdentifier (Some namespace) name) cs left → Double namespace name cs left
double namespace name cs left begins =
    let outer = parted (SpellsNamespace namespace) (SpellsName name) cs left begins in
    let inner = parted (SpellsName namespace) (Word (0x3A ∷ [])) cs outer.between outer.first in
    let colon : inner.between ≡ 0x3A ∷ outer.between = inner.second.whole ∙ ap (λ ds. ds ++ outer.between) inner.second.is in
    let first : Begins (SpellsName namespace) cs (0x3A ∷ outer.between) = subst (Begins (SpellsName namespace) cs) colon inner.first in
    record {
      behind = outer.between;
      first = elim (name_complete namespace cs (0x3A ∷ outer.between) first colon_is_no_name_char) [ inl finds ↦ finds | inr finds ↦ finds ];
      second = outer.second;
    }

from_double : (namespace name cs behind left : List ℕ) → Begins (SpellsName namespace) cs (0x3A ∷ behind) → Begins (SpellsName name) behind left →
    Begins (SpellsIdentifier (Some namespace) name) cs left
from_double namespace name cs behind left first second =
    joined (SpellsNamespace namespace) (SpellsName name) cs behind left
    (joined (SpellsName namespace) (Word (0x3A ∷ [])) cs (0x3A ∷ behind) behind first (record { taken = 0x3A ∷ []; whole = refl; is = refl }))
    second

-- what is found is an identifier
begins_with : (cs : List ℕ) (first : List ℕ × List ℕ) (second : Option (List ℕ × List ℕ)) → name_at cs ≡ Some first → second_name_at first.1 ≡ second →
    (found : Ident × List ℕ) → with_first_name first.0 first.1 second ≡ found → Begins (SpellsIdent found.0) cs found.1
begins_with cs first None finds behind found is =
    subst (λ (found : Ident × List ℕ). Begins (SpellsIdent found.0) cs found.1) is
    (from_single first.0 cs first.1 (name_begins cs first.0 first.1 finds))
begins_with cs first (Some second) finds behind found is =
    let parts = second_parts first.1 second (one_at 0x3A first.1) refl behind in
    let begins : Begins (SpellsName first.0) cs (0x3A ∷ parts.behind) =
    subst (Begins (SpellsName first.0) cs) parts.split (name_begins cs first.0 first.1 finds) in
    subst (λ (found : Ident × List ℕ). Begins (SpellsIdent found.0) cs found.1) is
    (from_double first.0 second.0 cs parts.behind second.1 begins (name_begins parts.behind second.0 second.1 parts.finds))

pub identifier_begins : (cs : List ℕ) (ident : Ident) (left : List ℕ) → identifier_at cs ≡ Some (ident, left) → Begins (SpellsIdent ident) cs left
unfolding identifier_at
identifier_begins cs ident left finds =
    let parts = mapped_parts (λ (first : List ℕ × List ℕ). with_first_name first.0 first.1 (second_name_at first.1)) (name_at cs) (ident, left) finds in
    begins_with cs parts.0 (second_name_at parts.0.1) parts.1 refl (ident, left) parts.2

-- what is found ends no later than an identifier that begins here
left_of : (first : List ℕ × List ℕ) (second : Option (List ℕ × List ℕ)) → second_name_at first.1 ≡ second →
    length (with_first_name first.0 first.1 second).1 ≤ length first.1
left_of first None is = omega arith
left_of first (Some second) is = second_shortens first.1 second (second_parts first.1 second (one_at 0x3A first.1) refl is)

identifier_reaches : (cs : List ℕ) (found : Ident × List ℕ) (namespace : Option (List ℕ)) (name others : List ℕ) → identifier_at cs ≡ Some found →
    Begins (SpellsIdentifier namespace name) cs others → length found.1 ≤ length others
unfolding identifier_at
identifier_reaches cs found None name others finds begins =
    let parts = mapped_parts (λ (first : List ℕ × List ℕ). with_first_name first.0 first.1 (second_name_at first.1)) (name_at cs) found finds in
    omega (
      arith,
      left_of parts.0 (second_name_at parts.0.1) refl,
      ap (λ (f : Ident × List ℕ). length f.1) parts.2,
      name_reaches parts.0.0 cs parts.0.1 others name parts.1 (single name cs others begins),
    )
identifier_reaches cs found (Some namespace) name others finds begins =
    let two = double namespace name cs others begins in
    let reach = reaches name two.behind others two.second in
    let computed : identifier_at cs ≡ Some (with_first_name namespace (0x3A ∷ two.behind) (Some (name ++ run is_name_char reach.between, after_mark (behind_run is_name_char reach.between)))) =
    with_name cs (namespace, 0x3A ∷ two.behind) two.first
    ∙ ap (λ o. Some (with_first_name namespace (0x3A ∷ two.behind) o)) reach.finds in
    let lefts : Some found ≡ Some (with_first_name namespace (0x3A ∷ two.behind) (Some (name ++ run is_name_char reach.between, after_mark (behind_run is_name_char reach.between)))) =
    sym finds ∙ computed in
    omega (arith, ap (λ (o : Option (Ident × List ℕ)). length (elim o as (λ o. List ℕ) [ None ↦ [] | Some f ↦ f.1 ])) lefts, reaches_length reach.between others reach.mark)

pub identifier_found : (cs : List ℕ) (ident : Ident) (left : List ℕ) → identifier_at cs ≡ Some (ident, left) → BeginsLongest SpellsIdent ident cs left
identifier_found cs ident left finds = record {
  begins = identifier_begins cs ident left finds;
  longest = λ other others begins. identifier_reaches cs (ident, left) other.namespace other.name others finds begins;
}

no_identifier : (cs : List ℕ) (namespace : Option (List ℕ)) (name left : List ℕ) → identifier_at cs ≡ None → Begins (SpellsIdentifier namespace name) cs left → ⊥
no_identifier cs None name left none begins =
    let reach = reaches name cs left (single name cs left begins) in
    nothing_found (identifier_at cs) _ none (with_name cs (name ++ run is_name_char reach.between, after_mark (behind_run is_name_char reach.between)) reach.finds)
no_identifier cs (Some namespace) name left none begins =
    let two = double namespace name cs left begins in
    nothing_found (identifier_at cs) _ none (with_name cs (namespace, 0x3A ∷ two.behind) two.first)

pub identifier_none : (cs : List ℕ) → identifier_at cs ≡ None → BeginsNone SpellsIdent cs
identifier_none cs none ident left begins = no_identifier cs ident.namespace ident.name left none begins

-- an identifier that neither a name-char nor a colon follows is found, with the mark behind it or without
no_colon_before_mark : (left : List ℕ) → one_at 0x3A (after_mark left) ≡ None → one_at 0x3A left ≡ None
no_colon_before_mark left none =
    elim (one_at 0x3A left) as (λ o. one_at 0x3A left ≡ o → o ≡ None) [
      | None ↦ λ is. refl
      | Some behind ↦ λ is.
          absurd (nothing_found (one_at 0x3A (after_mark left)) behind none (ap (λ ds. one_at 0x3A (after_mark ds)) (one_parts 0x3A left behind is)))
    ] refl

alone : (name left : List ℕ) → one_at 0x3A left ≡ None → with_first_name name left (second_name_at left) ≡ with_first_name name left None
alone name left none = ap (λ o. with_first_name name left (option_and_then name_at o)) none

pub single_complete : (name cs left : List ℕ) → Begins (SpellsIdentifier None name) cs left → is_next is_name_char left ≡ false →
    one_at 0x3A (after_mark left) ≡ None →
    (identifier_at cs ≡ Some (with_first_name name left None)) ⊎ (identifier_at cs ≡ Some (with_first_name name (after_mark left) None))
single_complete name cs left begins ends no_colon =
    elim (name_complete name cs left (single name cs left begins) ends) [
      | inl finds ↦ inl (with_name cs (name, left) finds ∙ ap Some (alone name left (no_colon_before_mark left no_colon)))
      | inr finds ↦ inr (with_name cs (name, after_mark left) finds ∙ ap Some (alone name (after_mark left) no_colon))
    ]

pub double_complete : (namespace name cs left : List ℕ) → Begins (SpellsIdentifier (Some namespace) name) cs left → is_next is_name_char left ≡ false →
    (identifier_at cs ≡ Some (with_first_name namespace left (Some (name, left)))) ⊎ (identifier_at cs ≡ Some (with_first_name namespace left (Some (name, after_mark left))))
double_complete namespace name cs left begins ends =
    let two = double namespace name cs left begins in
    elim (name_complete name two.behind left two.second ends) [
      | inl finds ↦ inl (with_name cs (namespace, 0x3A ∷ two.behind) two.first ∙ ap (λ o. Some (with_first_name namespace (0x3A ∷ two.behind) o)) finds)
      | inr finds ↦ inr (with_name cs (namespace, 0x3A ∷ two.behind) two.first ∙ ap (λ o. Some (with_first_name namespace (0x3A ∷ two.behind) o)) finds)
    ]

complete_parts : (namespace : Option (List ℕ)) (name cs left : List ℕ) → Begins (SpellsIdentifier namespace name) cs left → is_next is_name_char left ≡ false →
    one_at 0x3A (after_mark left) ≡ None →
    (identifier_at cs ≡ Some (record { namespace = namespace; name = name }, left)) ⊎ (identifier_at cs ≡ Some (record { namespace = namespace; name = name }, after_mark left))
complete_parts None name cs left begins ends no_colon = single_complete name cs left begins ends no_colon
complete_parts (Some namespace) name cs left begins ends no_colon = double_complete namespace name cs left begins ends

pub identifier_complete : (ident : Ident) (cs left : List ℕ) → Begins (SpellsIdent ident) cs left → is_next is_name_char left ≡ false →
    one_at 0x3A (after_mark left) ≡ None → (identifier_at cs ≡ Some (ident, left)) ⊎ (identifier_at cs ≡ Some (ident, after_mark left))
identifier_complete ident cs left begins ends no_colon = complete_parts ident.namespace ident.name cs left begins ends no_colon

-- each text spells at most one identifier
pub identifier_whole : (text : List ℕ) (ident : Ident) → SpellsIdent ident text → identifier_at text ≡ Some (ident, [])
identifier_whole text ident is =
    elim (identifier_complete ident text [] (begins_whole (SpellsIdent ident) text is) refl refl) [ inl finds ↦ finds | inr finds ↦ finds ]

pub identifiers_once : (text : List ℕ) (ident other : Ident) → SpellsIdent ident text → SpellsIdent other text → ident ≡ other
identifiers_once text ident other one two = pair_first ident other [] [] (sym (identifier_whole text ident one) ∙ identifier_whole text other two)
