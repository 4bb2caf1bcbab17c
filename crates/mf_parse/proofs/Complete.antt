-- What is spelled is found: expressions and markup.
use Rattle.std.proofs.Common.{◌≡◌, ℕ, true, false, ◌==◌, Option, Some, None, List, [], ◌∷◌, ◌++◌, refl, ap, sym, ◌∙◌, subst, inl, inr, ◌⊎◌}
use Rattle.std.proofs.lemmas.Bool.{cases_Bool, cond-true, cond-false, and_parts, and_from, eqb-true, false≢true}
use Rattle.std.specs.List.{list_all}
use Rattle.std.specs.Option.{option_map}
use Rattle.std.specs.Prelude.{codes}
use Rattle.mf_text.specs.Characters.{is_bidi, is_space, is_name_start, is_name_char}
use Rattle.mf_text.specs.Languages.{Language, Word, ◌⋅◌, Optional, One, Maybe, Each, Begins}
use Rattle.mf_text.specs.Grammar.{O, S, SpellsName, SpellsBareName, SpellsNamespace, SpellsIdentifier, SpellsLiteral, is_bare_name, is_unquoted}
use Rattle.mf_text.proofs.Classes.{space_is_no_name_char, mark_is_space, name_start_is_name_char}
use Rattle.mf_lex.specs.Computed.{is_next, one_at, after_space, has_space, name_at, identifier_at, literal_at}
use Rattle.mf_lex.specs.declared.ident.Ident.{Ident}
use Rattle.mf_lex.proofs.Begins.{parted, joined}
use Rattle.mf_lex.proofs.Escapes.{one_next}
use Rattle.mf_lex.proofs.Identifiers.{identifier_complete}
use Rattle.mf_lex.proofs.Literals.{literal_complete}
use Rattle.mf_lex.proofs.Members.{equals_is_no_name_char, dollar_is_no_name_char}
use Rattle.mf_lex.proofs.Names.{name_complete}
use Rattle.mf_lex.proofs.Runs.{behind_ends}
use Rattle.mf_lex.proofs.Spaces.{o_passes}
use Rattle.mf_tree.proofs.Marks.{same_name}
use Rattle.mf_tree.specs.Names.{named}
use Rattle.mf_tree.specs.Grammar.{SpellsIdentifierNode, SpellsVariable, SpellsOptionValue, SpellsOption, SpellsSpacedOption, SpellsAttributeValue, SpellsAttribute}
use Rattle.mf_tree.specs.declared.name.Name.{Name}
use Rattle.mf_tree.specs.declared.name.Identifier.{Identifier}
use Rattle.mf_tree.specs.declared.expression.OptionValue.{OptionValue}
use Rattle.mf_tree.specs.declared.expression.OptionNode.{OptionNode}
use Rattle.mf_tree.specs.declared.expression.Attribute.{Attribute}
use Rattle.mf_tree.specs.declared.expression.OptionValue.TheVariants as OptionValues
use Rattle.mf_parse.specs.Computed.{made, followed, behind, onto, is_at, is_spaced, identifier_of, identifier_node_at, variable_at, option_value_at, behind_equals, option_node, option_at, spaced_option_at, options_at, attribute_value_at, attribute_node, attribute_at}
use Rattle.mf_parse.proofs.Finding.{followed_by, behind_by, made_by, many_stop, many_some, Shortens}
use Rattle.mf_parse.proofs.Heads.{spaced}
use Rattle.mf_parse.proofs.Places.{IsPast, past_space, past_some, past_spaced, Reaches, exactly, reaches_either, Stops, stops_before, stops_spaced, at_itself, word_first, space_first, some_space_first, sign_first, some_space_is_longer, shorter}
use Rattle.mf_parse.proofs.Sound.{option_sound}

pub name_char_is_no_space : (c : ℕ) → is_name_char c ≡ true → is_space c ≡ false
name_char_is_no_space c is =
    elim (cases_Bool (is_space c)) [
      | inl space ↦ absurd (false≢true (sym (space_is_no_name_char c space) ∙ is))
      | inr other ↦ other
    ]

-- a name begins with a character of name-start, which is no space
bare_next : (spelled rest : List ℕ) → is_bare_name spelled ≡ true → (after_space (spelled ++ rest) ≡ spelled ++ rest) × (is_next is_name_start (spelled ++ rest) ≡ true)
unfolding after_space
bare_next [] rest is = absurd (false≢true is)
bare_next (c ∷ cs) rest is =
    let start = (and_parts (is_name_start c) (list_all is_name_char cs) is).0 in
    (behind_ends is_space (c ∷ cs ++ rest) (name_char_is_no_space c (name_start_is_name_char c start)), start)

mark_is_o : (text : List ℕ) → Optional (One is_bidi) text → O text
mark_is_o text (inl empty) = subst O (sym empty) tt
mark_is_o text (inr one) = subst O (sym one.1) (mark_is_space one.0 one.2, tt)

-- a name behind the space: its mark may be part of the space
record NameBehind (Rule : Language) (cs left : List ℕ) : Type 0 where
  begins : Begins Rule (after_space cs) left
  starts : is_next is_name_start (after_space cs) ≡ true

name_behind : (spelled cs left : List ℕ) → Begins (SpellsName spelled) cs left → NameBehind (SpellsName spelled) cs left
name_behind spelled cs left begins =
    let outer = parted (Optional (One is_bidi)) (SpellsBareName spelled ⋅ Optional (One is_bidi)) cs left begins in
    let inner = parted (SpellsBareName spelled) (Optional (One is_bidi)) outer.between left outer.second in
    let next : outer.between ≡ spelled ++ inner.between = inner.first.whole ∙ ap (λ cs. cs ++ inner.between) inner.first.is.0 in
    let bare = bare_next spelled inner.between inner.first.is.1 in
    let at : after_space cs ≡ outer.between =
    o_passes cs outer.between (record { taken = outer.first.taken; whole = outer.first.whole; is = mark_is_o outer.first.taken outer.first.is })
    ∙ ap after_space next ∙ bare.0 ∙ sym next in record {
      begins = subst (λ (cs : List ℕ). Begins (SpellsName spelled) cs left) (sym at)
          (joined (Optional (One is_bidi)) (SpellsBareName spelled ⋅ Optional (One is_bidi)) outer.between outer.between left (record { taken = []; whole = refl; is = inl refl }) outer.second);
      starts = ap (is_next is_name_start) (at ∙ next) ∙ bare.1;
    }

identifier_behind : (namespace : Option (List ℕ)) (name cs left : List ℕ) → Begins (SpellsIdentifier namespace name) cs left → NameBehind (SpellsIdentifier namespace name) cs left
identifier_behind None name cs left begins =
    let parts = parted (Word []) (SpellsName name) cs left begins in
    let at : cs ≡ parts.between = parts.first.whole ∙ ap (λ cs. cs ++ parts.between) parts.first.is in
    let alone = name_behind name cs left (subst (λ (cs : List ℕ). Begins (SpellsName name) cs left) (sym at) parts.second) in record {
      begins = joined (Word []) (SpellsName name) (after_space cs) (after_space cs) left (record { taken = []; whole = refl; is = refl }) alone.begins;
      starts = alone.starts;
    }
identifier_behind (Some namespace) name cs left begins =
    let parts = parted (SpellsNamespace namespace) (SpellsName name) cs left begins in
    let first = parted (SpellsName namespace) (Word (0x3A ∷ [])) cs parts.between parts.first in
    let behind = name_behind namespace cs first.between first.first in record {
      begins = joined (SpellsNamespace namespace) (SpellsName name) (after_space cs) parts.between left
          (joined (SpellsName namespace) (Word (0x3A ∷ [])) (after_space cs) first.between parts.between behind.begins first.second) parts.second;
      starts = behind.starts;
    }

-- the node of an identifier that has these parts
same_namespace : (namespace : Option Name) → option_map named (option_map (λ (name : Name). name.spelled) namespace) ≡ namespace
same_namespace None = refl
same_namespace (Some name) = ap Some (same_name (named name.spelled) name refl)

ident_of : Identifier → Ident
ident_of node = record { namespace = option_map (λ (name : Name). name.spelled) node.namespace; name = node.name.spelled }

with_parts : Option Name → Name → Identifier
with_parts namespace name = record { namespace = namespace; name = name }

same_node : (namespace : Option Name) (name : Name) → ◌≡◌ {A = Identifier} (identifier_of (record { namespace = option_map (λ (name : Name). name.spelled) namespace; name = name.spelled })) (record { namespace = namespace; name = name })
unfolding with_parts
same_node namespace name =
    ap (λ (namespace : Option Name). with_parts namespace (named name.spelled)) (same_namespace namespace)
    ∙ ap (λ (other : Name). with_parts namespace other) (same_name (named name.spelled) name refl)

pub identifier_complete_node : (node : Identifier) (cs left : List ℕ) → Begins (SpellsIdentifierNode node) cs left → Stops left → Reaches (identifier_node_at cs) node left
unfolding ident_of identifier_node_at
identifier_complete_node node cs left begins stops =
    let reaches = reaches_either (identifier_at cs) (ident_of node) left (identifier_complete (ident_of node) cs left begins stops.no_name stops.no_colon) in record {
      place = reaches.place;
      past = reaches.past;
      is = made_by identifier_of (identifier_at cs) (ident_of node) reaches.place reaches.is ∙ ap (λ node. Some (node, reaches.place)) (same_node node.namespace node.name);
    }

pub variable_complete : (node : Name) (cs left : List ℕ) → Begins (SpellsVariable node) cs left → Stops left → Reaches (variable_at cs) node left
unfolding variable_at
variable_complete node cs left begins stops =
    let sign = word_first 0x24 (SpellsName node.spelled) cs left begins in
    let reaches = reaches_either (name_at sign.middle) node.spelled left (name_complete node.spelled sign.middle left sign.begins stops.no_name) in record {
      place = reaches.place;
      past = reaches.past;
      is =
          behind_by (one_at 0x24 cs) (λ left. made named (name_at left)) sign.middle (ap (one_at 0x24) sign.is ∙ one_next 0x24 sign.middle)
          ∙ made_by named (name_at sign.middle) node.spelled reaches.place reaches.is
          ∙ ap (λ node. Some (node, reaches.place)) (same_name (named node.spelled) node refl);
    }

-- a variable stands where it stands
pub variable_here : (node : Name) (cs left : List ℕ) → Begins (SpellsVariable node) cs left → (rest : List ℕ) × (cs ≡ 0x24 ∷ rest)
variable_here node cs left begins = let sign = word_first 0x24 (SpellsName node.spelled) cs left begins in (sign.middle, sign.is)

-- a literal begins with a bar or a character of name-char
pub literal_here : (value cs left : List ℕ) → Begins (SpellsLiteral value) cs left → (c : ℕ) × (rest : List ℕ) × (cs ≡ c ∷ rest) × ((c ≡ 0x7C) ⊎ (is_name_char c ≡ true))
literal_here value cs left begins = of_either begins.is where
  of_unquoted : (value : List ℕ) → is_unquoted value ≡ true → cs ≡ value ++ left → (c : ℕ) × (rest : List ℕ) × (cs ≡ c ∷ rest) × ((c ≡ 0x7C) ⊎ (is_name_char c ≡ true))
  of_unquoted [] is at = absurd (false≢true is)
  of_unquoted (c ∷ value) is at = (c, value ++ left, at, inr ((and_parts (is_name_char c) (list_all is_name_char value) is).0))

  of_either : SpellsLiteral value begins.taken → (c : ℕ) × (rest : List ℕ) × (cs ≡ c ∷ rest) × ((c ≡ 0x7C) ⊎ (is_name_char c ≡ true))
  of_either (inl quoted) = (
    0x7C,
    quoted.back ++ left,
    begins.whole ∙ ap (λ cs. cs ++ left) (quoted.whole ∙ ap (λ cs. cs ++ quoted.back) quoted.first),
    inl refl,
  )
  of_either (inr unquoted) = of_unquoted value unquoted.1 (begins.whole ∙ ap (λ cs. cs ++ left) unquoted.0)

literal_is_no_space : (c : ℕ) → (c ≡ 0x7C) ⊎ (is_name_char c ≡ true) → is_space c ≡ false
literal_is_no_space c (inl bar) = ap is_space bar
literal_is_no_space c (inr name) = name_char_is_no_space c name

pub literal_at_itself : (value cs left : List ℕ) → Begins (SpellsLiteral value) cs left → after_space cs ≡ cs
literal_at_itself value cs left begins =
    let here = literal_here value cs left begins in
    ap after_space here.2 ∙ at_itself here.0 here.1 (literal_is_no_space here.0 here.3) ∙ sym here.2

-- a literal doesn't begin with a character that is neither
literal_is_other : (sign c : ℕ) → is_name_char sign ≡ false → (0x7C == sign) ≡ false → (c ≡ 0x7C) ⊎ (is_name_char c ≡ true) → (c == sign) ≡ false
literal_is_other sign c no_name no_bar (inl bar) = ap (λ c. c == sign) bar ∙ no_bar
literal_is_other sign c no_name no_bar (inr name) =
    elim (cases_Bool (c == sign)) [
      | inl same ↦ absurd (false≢true (sym no_name ∙ ap is_name_char (sym (eqb-true c sign same)) ∙ name))
      | inr other ↦ other
    ]

pub literal_is_not_at : (sign : ℕ) (value cs left : List ℕ) → is_name_char sign ≡ false → (0x7C == sign) ≡ false → Begins (SpellsLiteral value) cs left → is_at sign cs ≡ false
literal_is_not_at sign value cs left no_name no_bar begins =
    let here = literal_here value cs left begins in
    ap (is_at sign) here.2 ∙ literal_is_other sign here.0 no_name no_bar here.3

option_value_complete : (node : OptionValue) (cs left : List ℕ) → Begins (SpellsOptionValue node) cs left → Stops left → Reaches (option_value_at cs) node left
unfolding option_value_at
option_value_complete (OptionValues.Variable name) cs left begins stops =
    let here = variable_here name cs left begins in
    let reaches = variable_complete name cs left begins stops in record {
      place = reaches.place;
      past = reaches.past;
      is =
          cond-true (is_at 0x24 cs) (made OptionValues.Variable (variable_at cs)) (made OptionValues.Literal (literal_at cs)) (ap (is_at 0x24) here.1)
          ∙ made_by OptionValues.Variable (variable_at cs) name reaches.place reaches.is;
    }
option_value_complete (OptionValues.Literal value) cs left begins stops =
    exactly (option_value_at cs) (OptionValues.Literal value) left
    (cond-false (is_at 0x24 cs) (made OptionValues.Variable (variable_at cs)) (made OptionValues.Literal (literal_at cs)) (literal_is_not_at 0x24 value cs left dollar_is_no_name_char refl begins)
    ∙ made_by OptionValues.Literal (literal_at cs) value left (literal_complete value cs left begins stops.no_name))

option_value_at_itself : (node : OptionValue) (cs left : List ℕ) → Begins (SpellsOptionValue node) cs left → after_space cs ≡ cs
option_value_at_itself (OptionValues.Variable name) cs left begins =
    let here = variable_here name cs left begins in
    ap after_space here.1 ∙ at_itself 0x24 here.0 refl ∙ sym here.1
option_value_at_itself (OptionValues.Literal value) cs left begins = literal_at_itself value cs left begins

-- o "=" o
pub record BehindEquals (Rule : Language) (cs left : List ℕ) : Type 0 where
  pub first : List ℕ
  pub sign : after_space cs ≡ 0x3D ∷ first
  pub middle : List ℕ
  pub same : after_space first ≡ after_space middle
  pub begins : Begins Rule middle left

pub equals_first : (Rule : Language) (cs left : List ℕ) → Begins (O ⋅ Word (codes "=") ⋅ O ⋅ Rule) cs left → BehindEquals Rule cs left
equals_first Rule cs left begins =
    let sign = sign_first 0x3D (O ⋅ Rule) cs left refl begins in
    let space = space_first Rule sign.middle left sign.begins in
    record { first = sign.middle; sign = sign.is; middle = space.middle; same = space.same; begins = space.begins }

pub behind_equals_is : (Rule : Language) (cs left place : List ℕ) (equals : BehindEquals Rule cs left) → IsPast cs place → behind_equals place ≡ Some (after_space equals.middle)
unfolding behind_equals after_space
behind_equals_is Rule cs left place equals past =
    ap (λ cs. option_map after_space (one_at 0x3D cs)) (past_space cs place past ∙ equals.sign)
    ∙ ap (option_map after_space) (one_next 0x3D equals.first)
    ∙ ap Some equals.same

pub stops_at_equals : (Rule : Language) (cs left : List ℕ) → BehindEquals Rule cs left → Stops cs
stops_at_equals Rule cs left equals = stops_before cs 0x3D equals.first equals.sign equals_is_no_name_char refl

-- an option behind the space
record OptionBehind (node : OptionNode) (cs left : List ℕ) : Type 0 where
  reaches : Reaches (option_at (after_space cs)) node left
  starts : is_next is_name_start (after_space cs) ≡ true

option_complete : (node : OptionNode) (cs left : List ℕ) → Begins (SpellsOption node) cs left → Stops left → OptionBehind node cs left
unfolding option_at
option_complete node cs left begins stops =
    let parts = parted (SpellsIdentifierNode node.name) (O ⋅ Word (codes "=") ⋅ O ⋅ SpellsOptionValue node.value) cs left begins in
    let equals = equals_first (SpellsOptionValue node.value) parts.between left parts.second in
    let name = identifier_behind (option_map (λ (name : Name). name.spelled) node.name.namespace) node.name.name.spelled cs parts.between parts.first in
    let first = identifier_complete_node node.name (after_space cs) parts.between name.begins (stops_at_equals (SpellsOptionValue node.value) parts.between left equals) in
    let value = option_value_complete node.value equals.middle left equals.begins stops in
    let here = option_value_at_itself node.value equals.middle left equals.begins in record {
      reaches = record {
        place = value.place;
        past = value.past;
        is =
            followed_by (identifier_node_at (after_space cs)) (λ name left. behind (behind_equals left) (λ left. made (option_node name) (option_value_at left))) node.name first.place first.is
            ∙ behind_by (behind_equals first.place) (λ left. made (option_node node.name) (option_value_at left)) equals.middle
            (behind_equals_is (SpellsOptionValue node.value) parts.between left first.place equals first.past ∙ ap Some here)
            ∙ made_by (option_node node.name) (option_value_at equals.middle) node.value value.place value.is;
      };
      starts = name.starts;
    }

-- each of some that white space stands before stops the one before it
pub each_stops : {X : Type 0} (Rule : X → Language) (xs : List X) (cs left : List ℕ) → Begins (Each (λ x. S ⋅ Rule x) xs) cs left → Stops left → Stops cs
each_stops Rule [] cs left begins stops = subst Stops (sym (begins.whole ∙ ap (λ cs. cs ++ left) begins.is)) stops
each_stops Rule (x ∷ xs) cs left begins stops =
    let parts = parted (S ⋅ Rule x) (Each (λ x. S ⋅ Rule x) xs) cs left begins in
    stops_spaced cs (some_space_first (Rule x) cs parts.between parts.first).0

pub options_shorten : Shortens (is_spaced is_name_start) spaced_option_at
options_shorten cs node left some finds =
    shorter (SpellsSpacedOption node) cs left (some_space_is_longer (SpellsOption node))
    (spaced is_name_start (SpellsOption node) cs left some (option_sound (after_space cs) node left finds))

pub options_complete : (nodes : List OptionNode) (cs left place : List ℕ) → Begins (Each SpellsSpacedOption nodes) cs left → IsPast cs place → Stops left → is_spaced is_name_start left ≡ false →
    Reaches (options_at place) nodes left
unfolding options_at has_space
options_complete [] cs left place begins past stops ends =
    let same : cs ≡ left = begins.whole ∙ ap (λ cs. cs ++ left) begins.is in
    let past_left : IsPast left place = subst (λ (cs : List ℕ). IsPast cs place) same past in record {
      place = place;
      past = past_left;
      is = many_stop (is_spaced is_name_start) spaced_option_at place (past_spaced is_name_start left place past_left ∙ ends);
    }
options_complete (node ∷ nodes) cs left place begins past stops ends =
    let parts = parted (SpellsSpacedOption node) (Each SpellsSpacedOption nodes) cs left begins in
    let space = some_space_first (SpellsOption node) cs parts.between parts.first in
    let option = option_complete node space.1.middle parts.between space.1.begins (each_stops SpellsOption nodes parts.between left parts.second stops) in
    let at : after_space place ≡ after_space space.1.middle = past_space cs place past ∙ space.1.same in
    let rest = options_complete nodes parts.between left option.reaches.place parts.second option.reaches.past stops ends in record {
      place = rest.place;
      past = rest.past;
      is =
          many_some (is_spaced is_name_start) spaced_option_at refl options_shorten place node option.reaches.place
          (and_from (has_space place) (is_next is_name_start (after_space place)) (past_some cs place past ∙ space.0) (ap (is_next is_name_start) at ∙ option.starts))
          (ap option_at at ∙ option.reaches.is)
          ∙ made_by (onto node) (options_at option.reaches.place) nodes rest.place rest.is;
    }

-- what follows an attribute: a space that no equals sign follows
pub record EndsAttribute (left : List ℕ) : Type 0 where
  pub stops : Stops left
  pub no_equals : is_at 0x3D (after_space left) ≡ false

-- where the name of the attribute ends, and the value from there on
AttributeValue : Option (List ℕ) → List ℕ → List ℕ → Type 0
AttributeValue value cs left = Stops cs × ((place : List ℕ) → IsPast cs place → Reaches (attribute_value_at place) value left)

attribute_value_complete : (value : Option (List ℕ)) (cs left : List ℕ) → Begins (Maybe SpellsAttributeValue value) cs left → EndsAttribute left → AttributeValue value cs left
unfolding AttributeValue attribute_value_at
attribute_value_complete None cs left begins ends =
    let same : left ≡ cs = sym (begins.whole ∙ ap (λ cs. cs ++ left) begins.is) in (
      subst Stops same ends.stops,
      λ place past. let past_left : IsPast left place = subst (λ (cs : List ℕ). IsPast cs place) (sym same) past in record {
        place = place;
        past = past_left;
        is = cond-false (is_at 0x3D (after_space place)) _ _ (ap (is_at 0x3D) (past_space left place past_left) ∙ ends.no_equals);
      },
    )
attribute_value_complete (Some value) cs left begins ends =
    let equals = equals_first (SpellsLiteral value) cs left begins in (
      stops_at_equals (SpellsLiteral value) cs left equals,
      λ place past. exactly (attribute_value_at place) (Some value) left
          (cond-true (is_at 0x3D (after_space place)) _ _ (ap (is_at 0x3D) (past_space cs place past ∙ equals.sign))
          ∙ behind_by (behind_equals place) (λ left. made Some (literal_at left)) equals.middle
          (behind_equals_is (SpellsLiteral value) cs left place equals past ∙ ap Some (literal_at_itself value equals.middle left equals.begins))
          ∙ made_by Some (literal_at equals.middle) value left (literal_complete value equals.middle left equals.begins ends.stops.no_name)),
    )

pub attribute_complete : (node : Attribute) (cs left : List ℕ) → Begins (SpellsAttribute node) cs left → EndsAttribute left → Reaches (attribute_at cs) node left
unfolding attribute_at AttributeValue
attribute_complete node cs left begins ends =
    let sign = word_first 0x40 (SpellsIdentifierNode node.name ⋅ Maybe SpellsAttributeValue node.value) cs left begins in
    let parts = parted (SpellsIdentifierNode node.name) (Maybe SpellsAttributeValue node.value) sign.middle left sign.begins in
    let value = attribute_value_complete node.value parts.between left parts.second ends in
    let name = identifier_complete_node node.name sign.middle parts.between parts.first value.0 in
    let reaches = value.1 name.place name.past in record {
      place = reaches.place;
      past = reaches.past;
      is =
          behind_by (one_at 0x40 cs) (λ left. followed (identifier_node_at left) (λ name left. made (attribute_node name) (attribute_value_at left))) sign.middle (ap (one_at 0x40) sign.is ∙ one_next 0x40 sign.middle)
          ∙ followed_by (identifier_node_at sign.middle) (λ name left. made (attribute_node name) (attribute_value_at left)) node.name name.place name.is
          ∙ made_by (attribute_node node.name) (attribute_value_at name.place) node.value reaches.place reaches.is;
    }
