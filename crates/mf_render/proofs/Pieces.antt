-- The parts of a pattern grow by those of one more piece.
use Rattle.std.proofs.Common.{◌≡◌, ℕ, Result, Ok, Err, IfOk, List, [], ◌∷◌, ◌++◌, refl, sym, ap, subst, ◌∙◌}
use Rattle.mf_text.specs.declared.arguments.Argued.{Argued}
use Rattle.mf_text.specs.declared.direction.Direction.{Direction}
use Rattle.mf_locale.specs.declared.record.LocaleRecord.{LocaleRecord}
use Rattle.mf_tree.specs.declared.pattern.Markup.{Markup}
use Rattle.mf_tree.specs.declared.pattern.Piece.{Piece}
use Rattle.mf_tree.specs.declared.pattern.Piece.TheVariants as piece
use Rattle.mf_value.specs.ErrorLists.{Calls}
use Rattle.mf_value.specs.Meaning.{Meaning}
use Rattle.mf_value.specs.Traces.{Bound}
use Rattle.mf_parts.specs.Isolation.{isolated, isolated_part}
use Rattle.mf_parts.specs.declared.part.Part.{Part}
use Rattle.mf_resolve.specs.Gathering.{Gathers}
use Rattle.mf_resolve.specs.Resolving.{ScopeState, bound_of}
use Rattle.mf_answer.specs.Parts.{after_pattern, after_piece, pattern_parts, piece_part}
use Rattle.mf_render.specs.Showing.{GivesMarkup, GivesPart, GivesParts}
use Rattle.std.specs.declared.alloc.AllocError.{AllocError}

pub append_nothing : {A : Type 0} (xs : List A) → xs ++ [] ≡ xs
append_nothing [] = refl
append_nothing (x ∷ xs) = ap (λ more. x ∷ more) (append_nothing xs)

pub append_again : {A : Type 0} (xs ys zs : List A) → xs ++ (ys ++ zs) ≡ xs ++ ys ++ zs
append_again [] ys zs = refl
append_again (x ∷ xs) ys zs = ap (λ more. x ∷ more) (append_again xs ys zs)

isolated_more : (dir : Direction) (parts : List Part) (part : Part) → isolated dir (parts ++ part ∷ []) ≡ isolated dir parts ++ isolated_part dir part
isolated_more dir [] part = append_nothing (isolated_part dir part)
isolated_more dir (first ∷ parts) part =
    ap (λ more. isolated_part dir first ++ more) (isolated_more dir parts part) ∙ append_again (isolated_part dir first) (isolated dir parts) (isolated_part dir part)

module _ (meaning : Meaning) (arguments : List (List ℕ × Argued)) (bound : List Bound) where
  pub after_more : (pieces : List Piece) (piece : Piece) (calls : Calls) →
      after_pattern meaning arguments bound (pieces ++ piece ∷ []) calls ≡ after_piece meaning arguments bound piece (after_pattern meaning arguments bound pieces calls)
  after_more [] piece calls = refl
  after_more (first ∷ pieces) piece calls = after_more pieces piece (after_piece meaning arguments bound first calls)

  pub parts_more : (locale : LocaleRecord) (calls : Calls) (pieces : List Piece) (piece : Piece) →
      pattern_parts meaning arguments bound locale calls (pieces ++ piece ∷ [])
      ≡ pattern_parts meaning arguments bound locale calls pieces ++ piece_part meaning arguments bound locale (after_pattern meaning arguments bound pieces calls) piece ∷ []
  parts_more locale calls [] piece = refl
  parts_more locale calls (first ∷ pieces) piece =
      ap (λ more. piece_part meaning arguments bound locale calls first ∷ more) (parts_more locale (after_piece meaning arguments bound first calls) pieces piece)

-- the variables that are bound hang on the declarations and the arguments alone
pub same_bound : (meaning : Meaning) (old new : ScopeState) → new.arguments ≡ old.arguments → new.declarations ≡ old.declarations →
    bound_of meaning new ≡ bound_of meaning old
same_bound meaning old new arguments declarations = cc

module _ (locale : LocaleRecord) (meaning : Meaning) where
  pub no_pieces : (scope : ScopeState) → GivesParts locale meaning scope scope [] []
  no_pieces scope = record { advances = record { arguments = refl; declarations = refl; gathers = λ calls gathers. gathers }; parts_are = λ calls gathers. refl }

  pub one_more : (old between new : ScopeState) (pieces : List Piece) (piece : Piece) (parts : List Part) (part : Part) →
      GivesParts locale meaning old between pieces parts → GivesPart locale meaning between new piece part →
      GivesParts locale meaning old new (pieces ++ piece ∷ []) (parts ++ isolated_part locale.dir part)
  one_more old between new pieces piece parts part given one =
      let arguments = given.advances.arguments in
      let bound = same_bound meaning old between arguments given.advances.declarations in
      let here : (calls : Calls) → after_piece meaning between.arguments (bound_of meaning between) piece calls ≡ after_piece meaning old.arguments (bound_of meaning old) piece calls =
      λ calls i. after_piece meaning (arguments i) (bound i) piece calls in
      record {
        advances = record {
          arguments = one.advances.arguments ∙ arguments;
          declarations = one.advances.declarations ∙ given.advances.declarations;
          gathers = λ calls gathers.
              subst (Gathers meaning new) (here (after_pattern meaning old.arguments (bound_of meaning old) pieces calls) ∙ sym (after_more meaning old.arguments (bound_of meaning old) pieces piece calls))
              (one.advances.gathers (after_pattern meaning old.arguments (bound_of meaning old) pieces calls) (given.advances.gathers calls gathers));
        };
        parts_are = λ calls gathers.
            let behind = after_pattern meaning old.arguments (bound_of meaning old) pieces calls in
            let first : parts ≡ isolated locale.dir (pattern_parts meaning old.arguments (bound_of meaning old) locale calls pieces) = given.parts_are calls gathers in
            let last : part ≡ piece_part meaning old.arguments (bound_of meaning old) locale behind piece =
            one.part_is behind (given.advances.gathers calls gathers) ∙ (λ i. piece_part meaning (arguments i) (bound i) locale behind piece) in
            (λ i. first i ++ isolated_part locale.dir (last i))
            ∙ sym (isolated_more locale.dir (pattern_parts meaning old.arguments (bound_of meaning old) locale calls pieces) (piece_part meaning old.arguments (bound_of meaning old) locale behind piece))
            ∙ ap (isolated locale.dir) (sym (parts_more meaning old.arguments (bound_of meaning old) locale calls pieces piece));
      }

-- the part of markup is that of the piece that it is
pub markup_given : (locale : LocaleRecord) (meaning : Meaning) (old new : ScopeState) (this : Piece) (markup : Markup) → this ≡ piece.Markup markup →
    (result : Result Part AllocError) → IfOk result (GivesMarkup meaning old new markup) → IfOk result (GivesPart locale meaning old new this)
markup_given locale meaning old new this markup is (Ok part) given = subst (λ (p : Piece). GivesPart locale meaning old new p part) (sym is) (given locale)
markup_given locale meaning old new this markup is (Err error) given = tt
