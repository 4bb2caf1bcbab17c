-- The errors of refused options.
use Rattle.std.proofs.Common.{◌≡◌, ◌≢◌, ◌==◌, ◌+◌, ◌<◌, ◌≤◌, ℕ, zero, suc, set, slice_get, inl, inr, arith, Bool, true, false, cond, ◌||◌, List, [], ◌∷◌, ◌++◌, take, length, get_or, Some, refl, ap, sym, ◌∙◌}
use Rattle.std.proofs.lemmas.Bool.{cases_Bool, eq-eqb, eqb-true}
use Rattle.std.proofs.lemmas.List.{length-take-le, take_more, append-nil, append_assoc}
use Rattle.mf_tree.specs.Faults.{identifier_text}
use Rattle.mf_tree.specs.declared.fault.Fault.{Fault}
use Rattle.mf_tree.specs.declared.fault.Kind.TheVariants.{BadOption}
use Rattle.mf_value.specs.Traces.{is_refused}
use Rattle.mf_value.specs.declared.called.CallFault.{CallFault}
use Rattle.mf_value.specs.declared.given.Given.{Given}
use Rattle.mf_resolve.specs.Refusals.{refused_errors, refused_from}
use Rattle.mf_resolve.proofs.Adding.{any_append, or_right}
use Rattle.mf_resolve.proofs.Using.{set_at, set_other}

none_from : (place : ℕ) (given : List Given) → refused_from place [] given ≡ []
none_from place [] = refl
none_from place (option ∷ given) = none_from (place + 1) given

pub none_refused : (given : List Given) → refused_errors [] given ≡ []
none_refused given = none_from 0 given

-- the errors after one option more
refused_last : (refused : List CallFault) (options : List Given) (place : ℕ) (option : Given) →
    refused_from place refused (options ++ option ∷ [])
    ≡ refused_from place refused options ++ cond (is_refused refused (place + length options)) (record { kind = BadOption; of = identifier_text option.name } ∷ []) []
refused_last refused [] place option = ap (λ at. cond (is_refused refused at) (record { kind = BadOption; of = identifier_text option.name } ∷ []) []) (let same : place ≡ place + 0 = omega arith in same)
refused_last refused (own ∷ options) place option =
    let front : Fault = record { kind = BadOption; of = identifier_text own.name } in
    let added : ℕ → List Fault = λ at. cond (is_refused refused at) (record { kind = BadOption; of = identifier_text option.name } ∷ []) [] in
    let rest = refused_last refused options (place + 1) option ∙ ap (λ at. refused_from (place + 1) refused options ++ added at) (let same : place + 1 + length options ≡ place + length (own ∷ options) = omega arith in same) in
    elim (cases_Bool (is_refused refused place)) [
      | inl is ↦
          ap (λ b. cond b (front ∷ refused_from (place + 1) refused (options ++ option ∷ [])) (refused_from (place + 1) refused (options ++ option ∷ []))) is
          ∙ ap (λ rest. front ∷ rest) rest
          ∙ sym (ap (λ b. cond b (front ∷ refused_from (place + 1) refused options) (refused_from (place + 1) refused options) ++ added (place + length (own ∷ options))) is)
      | inr is ↦
          ap (λ b. cond b (front ∷ refused_from (place + 1) refused (options ++ option ∷ [])) (refused_from (place + 1) refused (options ++ option ∷ []))) is
          ∙ rest
          ∙ sym (ap (λ b. cond b (front ∷ refused_from (place + 1) refused options) (refused_from (place + 1) refused options) ++ added (place + length (own ∷ options))) is)
    ]

pub same_some : (a b : Bool) → Some a ≡ Some b → a ≡ b
same_some a b is = cc

module _ (refused : List CallFault) (given : List Given) (i : ℕ) (option : Given) (inside : i < length given) (is : option ≡ get_or given i option) (first : List Fault) where
  errors_more : refused_errors refused (take (i + 1) given)
      ≡ refused_errors refused (take i given) ++ cond (is_refused refused i) (record { kind = BadOption; of = identifier_text option.name } ∷ []) []
  errors_more =
      ap (refused_errors refused) (take_more given i option inside ∙ ap (λ o. take i given ++ o ∷ []) (sym is))
      ∙ refused_last refused (take i given) 0 option
      ∙ ap (λ at. refused_errors refused (take i given) ++ cond (is_refused refused at) (record { kind = BadOption; of = identifier_text option.name } ∷ []) [])
      (let count = length-take-le i given (omega arith) in let same : 0 + length (take i given) ≡ i = omega arith in same)

  pub one_more : (faults new : List Fault) (of : List ℕ) → is_refused refused i ≡ true → of ≡ identifier_text option.name → faults ≡ first ++ refused_errors refused (take i given) →
      new ≡ faults ++ record { kind = BadOption; of = of } ∷ [] → new ≡ first ++ refused_errors refused (take (i + 1) given)
  one_more faults new of met of_is before after =
      after
      ∙ ap (λ front. front ++ record { kind = BadOption; of = of } ∷ []) before
      ∙ append_assoc first (refused_errors refused (take i given)) (record { kind = BadOption; of = of } ∷ [])
      ∙ ap (λ text. first ++ (refused_errors refused (take i given) ++ record { kind = BadOption; of = text } ∷ [])) of_is
      ∙ ap (λ b. first ++ (refused_errors refused (take i given) ++ cond b (record { kind = BadOption; of = identifier_text option.name } ∷ []) [])) (sym met)
      ∙ ap (λ errors. first ++ errors) (sym errors_more)

  pub none_more : (faults : List Fault) → is_refused refused i ≡ false → faults ≡ first ++ refused_errors refused (take i given) → faults ≡ first ++ refused_errors refused (take (i + 1) given)
  none_more faults unmet before =
      before
      ∙ ap (λ errors. first ++ errors) (sym (append-nil (refused_errors refused (take i given))))
      ∙ ap (λ b. first ++ (refused_errors refused (take i given) ++ cond b (record { kind = BadOption; of = identifier_text option.name } ∷ []) [])) (sym unmet)
      ∙ ap (λ errors. first ++ errors) (sym errors_more)

-- what is refused after one fault more
pub refused_more : (refused : List CallFault) (i : ℕ) (fault : CallFault) (place : ℕ) → i < length refused → fault ≡ get_or refused i fault →
    is_refused (take (i + 1) refused) place ≡ (is_refused (take i refused) place || is_refused (fault ∷ []) place)
refused_more refused i fault place inside is =
    ap (λ faults. is_refused faults place) (take_more refused i fault inside ∙ ap (λ f. take i refused ++ f ∷ []) (sym is))
    ∙ any_append (λ (other : CallFault). other.option == place) (take i refused) (fault ∷ [])

pub none_behind : (faults : List Fault) (refused : List CallFault) (given : List Given) → refused ≡ [] → faults ≡ faults ++ refused_errors refused given
none_behind faults refused given is =
    sym (append-nil faults) ∙ ap (λ errors. faults ++ errors) (sym (ap (λ refused. refused_errors refused given) is ∙ none_refused given))

-- The marks of refused options, after one fault more.

not_equal : (a b : ℕ) → a ≢ b → (a == b) ≡ false
not_equal a b apart = elim (cases_Bool (a == b)) [
  | inl same ↦ absurd (apart (eqb-true a b same))
  | inr other ↦ other
]

get_same : {X : Type 0} → (xs : List X) (i : ℕ) (d e : X) → i < length xs → get_or xs i d ≡ get_or xs i e
get_same [] i d e below = absurd (omega arith)
get_same (x ∷ xs) zero d e below = refl
get_same (x ∷ xs) (suc i) d e below = get_same xs i d e (omega arith)

length_set : {X : Type 0} → (xs : List X) (i : ℕ) (x : X) → length (set xs i x) ≡ length xs
length_set [] i x = refl
length_set (y ∷ xs) zero x = refl
length_set (y ∷ xs) (suc i) x = ap suc (length_set xs i x)

or_false : (b : Bool) → b ≡ (b || false)
or_false true = refl
or_false false = refl

module _ (refused : List CallFault) (i : ℕ) (default : CallFault) (inside : i < length refused) (count : ℕ) where
  abbrev pub last : CallFault
  last = get_or refused i default

  abbrev pub AreMarked : ℕ → List Bool → Type 0
  AreMarked n marks = (length marks ≡ count) × ((place : ℕ) → place < count → slice_get marks place ≡ Some (is_refused (take n refused) place))

  more : (place : ℕ) → is_refused (take (i + 1) refused) place ≡ (is_refused (take i refused) place || is_refused (last ∷ []) place)
  more place = refused_more refused i last place inside (get_same refused i default last inside)

  kept : (marks : List Bool) (place : ℕ) → place < count → last.option ≢ place → AreMarked i marks → slice_get marks place ≡ Some (is_refused (take (i + 1) refused) place)
  kept marks place below apart marked =
      marked.1 place below
      ∙ ap Some (or_false (is_refused (take i refused) place)
      ∙ ap (λ b. is_refused (take i refused) place || (b || false)) (sym (not_equal last.option place apart))
      ∙ sym (more place))

  pub one_marked : (marks : List Bool) → AreMarked i marks → last.option < length marks → AreMarked (i + 1) (set marks last.option true)
  one_marked marks marked there = (
    length_set marks last.option true ∙ marked.0,
    λ place below. elim (cases_Bool (last.option == place)) [
      | inl same ↦
          let equal = eqb-true last.option place same in
          ap (slice_get (set marks last.option true)) (sym equal)
          ∙ set_at marks last.option true there
          ∙ ap Some (sym (more place ∙ or_right _ _ (ap (λ b. b || false) same)))
      | inr other ↦
          let apart : place ≢ last.option = λ equal. let clash : true ≡ false = sym (eq-eqb last.option place (sym equal)) ∙ other in cc in
          set_other marks last.option place true apart ∙ kept marks place below (λ equal. apart (sym equal)) marked
    ],
  )

  pub none_marked : (marks : List Bool) → AreMarked i marks → length marks ≤ last.option → AreMarked (i + 1) marks
  none_marked marks marked past =
      (marked.0, λ place below. kept marks place below (λ equal. let same = marked.0 in absurd (omega arith)) marked)
