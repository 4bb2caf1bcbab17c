-- The steps of a resolution, over plain variables.
use Rattle.std.proofs.Common.{◌≡◌, ◌<◌, ◌+◌, ◌≢◌, ℕ, zero, suc, set, true, false, List, [], ◌∷◌, map, take, length, slice_get, Option, Some, None, refl, sym, ap, ◌∙◌, arith}
use Rattle.std.proofs.lemmas.List.{length-take-le}
use Rattle.std.specs.Borrow.{Bor}
use Rattle.std.specs.List.{list_all}
use Rattle.std.specs.Option.{is_some, option_map}
use Rattle.std.specs.Prelude.{Result, Ok, Err, IfOk}
use Rattle.mf_text.specs.Arguments.{argument_named}
use Rattle.mf_text.specs.declared.arguments.Argued.{Argued}
use Rattle.mf_tree.specs.Faults.{variable_text}
use Rattle.mf_tree.specs.declared.fault.Kind.TheVariants.{UnresolvedVariable}
use Rattle.mf_tree.specs.declared.name.Name.{Name}
use Rattle.mf_value.specs.ErrorLists.{is_same_node, without_place}
use Rattle.mf_value.specs.Meaning.{Meaning}
use Rattle.mf_value.specs.Traces.{Node, Placed, Spot, argued_faults, argued_value, binding, bound_faults, bound_value, variable_trace, variable_value}
use Rattle.mf_value.specs.declared.value.Value.{Value}
use Rattle.mf_resolve.specs.Resolving.{ScopeState, Resolves, Uses, bound_below, bound_of, faults_of, value_of, with_error}
use Rattle.mf_resolve.specs.Sources.{IsSource, kept_value, place_below, place_from, source_value}
use Rattle.mf_resolve.specs.declared.variable.Source.{Source}
use Rattle.mf_resolve.specs.declared.variable.Source.TheVariants as source
use Rattle.mf_resolve.proofs.Adding.{and_both, same_node}
use Rattle.mf_resolve.proofs.Binding.{binds_none, binds_some, found_at, trace_of}
use Rattle.mf_resolve.proofs.Steps.{nothing, owned, told, traced}

-- what is said of a result, said otherwise
pub ok_map : {X E : Type 0} → (P Q : X → Type 0) (result : Result X E) → ((x : X) → P x → Q x) → IfOk result P → IfOk result Q
ok_map P Q (Ok x) follows said = follows x said
ok_map P Q (Err e) follows said = said

pub some_of : {X : Type 0} → (found : Option X) → is_some found ≡ true → (x : X) × (found ≡ Some x)
some_of None is = cc
some_of (Some x) is = (x, refl)

pub none_of : {X : Type 0} → (found : Option X) → is_some found ≡ false → found ≡ None
none_of None is = refl
none_of (Some x) is = cc

pub front_length : {X : Type 0} → (xs : List X) (i : ℕ) → i < length xs → i ≡ 0 + length (take i xs)
front_length xs i below = let same = length-take-le i xs (omega arith) in omega arith

pub set_at : {X : Type 0} → (xs : List X) (i : ℕ) (x : X) → i < length xs → slice_get (set xs i x) i ≡ Some x
set_at [] i x below = absurd (omega arith)
set_at (y ∷ xs) zero x below = refl
set_at (y ∷ xs) (suc i) x below = set_at xs i x (omega arith)

pub set_other : {X : Type 0} → (xs : List X) (i j : ℕ) (x : X) → j ≢ i → slice_get (set xs i x) j ≡ slice_get xs j
set_other [] i j x apart = refl
set_other (y ∷ xs) zero zero x apart = absurd (apart refl)
set_other (y ∷ xs) zero (suc j) x apart = refl
set_other (y ∷ xs) (suc i) zero x apart = refl
set_other (y ∷ xs) (suc i) (suc j) x apart = set_other xs i j x (λ same. apart (ap suc same))

-- What a variable stands for.

declared_is : (found : Option ℕ) (argued : Option Argued) (place : ℕ) → IsSource found argued (source.Declared place) → found ≡ Some place
declared_is None None place is = absurd is
declared_is None (Some argued) place is = absurd is
declared_is (Some other) argued place is = ap Some (sym is)

argument_is : (found : Option ℕ) (argued : Option Argued) (given : Bor Argued) → IsSource found argued (source.Argument given) → (found ≡ None) × (argued ≡ Some given.now)
argument_is None None given is = absurd is
argument_is None (Some argued) given is = (refl, ap Some (sym is))
argument_is (Some other) argued given is = absurd is

nothing_is : (found : Option ℕ) (argued : Option Argued) → IsSource found argued source.Nothing → (found ≡ None) × (argued ≡ None)
nothing_is None None is = (refl, refl)
nothing_is None (Some argued) is = absurd is
nothing_is (Some other) argued is = absurd is

module _ (meaning : Meaning) (inner : ℕ) (old : ScopeState) (name : Name) where
  -- the source that a variable has, where the declarations before a place count
  abbrev pub HasSource : Source → Type 0
  HasSource found = IsSource (place_below inner (place_from 0 name old.declarations)) (argument_named old.arguments name.value) found

  pub declared_before : (place : ℕ) → HasSource (source.Declared place) → place < inner
  declared_before place is = (binds_some meaning old.arguments old.declarations inner name place (declared_is _ _ place is)).0

  abbrev use_faults : Spot → Node → List Placed
  use_faults spot node = (variable_trace meaning old.arguments (bound_below meaning old inner) node spot name).faults

  abbrev use_value : Value
  use_value = variable_value meaning old.arguments (bound_below meaning old inner) name

  pub use_declared : (limit : ℕ) (new : ScopeState) (spot : Spot) (place : ℕ) → HasSource (source.Declared place) →
      Resolves meaning limit old new place → Uses meaning inner limit old new name spot (source.Declared place)
  use_declared limit new spot place is resolves =
      let found = declared_is _ _ place is in
      let binds = binds_some meaning old.arguments old.declarations inner name place found in
      let member = found_at meaning old.arguments old.declarations inner name place found in
      let at : binding (bound_below meaning old inner) name ≡ Some (trace_of member.0) = binds.1 ∙ ap (option_map trace_of) member.1 in
      told meaning limit old new (use_faults spot)
      (λ node. kept_value (slice_get new.resolved place) ≡ value_of (slice_get (bound_of meaning old) place))
      (λ node. source_value meaning.direction new.resolved name (source.Declared place) ≡ Some use_value)
      (λ node says. says ∙ ap value_of member.1 ∙ ap (λ t. Some (bound_value meaning old.arguments name t)) (sym at))
      (traced meaning limit old new (λ node. faults_of (slice_get (bound_of meaning old) place)) (use_faults spot)
      (λ node. kept_value (slice_get new.resolved place) ≡ value_of (slice_get (bound_of meaning old) place))
      (λ node says. ap faults_of member.1 ∙ ap (bound_faults meaning old.arguments node spot name) (sym at))
      resolves)

  pub use_argument : (limit : ℕ) (spot : Spot) (given : Bor Argued) → HasSource (source.Argument given) → Uses meaning inner limit old old name spot (source.Argument given)
  use_argument limit spot given is =
      let found = argument_is _ _ given is in
      let none = binds_none meaning old.arguments old.declarations inner name found.0 in
      traced meaning limit old old (λ node. []) (use_faults spot)
      (λ node. source_value meaning.direction old.resolved name (source.Argument given) ≡ Some use_value)
      (λ node says.
      ap (argued_faults node spot name) (sym found.1)
      ∙ ap (bound_faults meaning old.arguments node spot name) (sym none))
      (nothing meaning limit old (λ node. source_value meaning.direction old.resolved name (source.Argument given) ≡ Some use_value)
      (λ node. ap (λ a. Some (argued_value meaning old.arguments name a)) (sym found.1)
      ∙ ap (λ t. Some (bound_value meaning old.arguments name t)) (sym none)))

  pub use_nothing : (limit : ℕ) (spot : Spot) (text : List ℕ) → text ≡ variable_text name → HasSource source.Nothing →
      Uses meaning inner limit old (with_error old (record { kind = UnresolvedVariable; of = text })) name spot source.Nothing
  use_nothing limit spot text text_is is =
      let found = nothing_is _ _ is in
      let none = binds_none meaning old.arguments old.declarations inner name found.0 in
      let alone : (node : Node) → use_faults spot node ≡ record { node = node; spot = spot; kind = UnresolvedVariable; of = variable_text name } ∷ [] = λ node.
      ap (bound_faults meaning old.arguments node spot name) none ∙ ap (argued_faults node spot name) found.1 in
      owned meaning limit old (record { kind = UnresolvedVariable; of = text } ∷ []) (use_faults spot)
      (λ node. source_value meaning.direction old.resolved name source.Nothing ≡ Some use_value)
      (λ node. ap (list_all (λ (fault : Placed). is_same_node fault.node node)) (alone node) ∙ and_both _ _ (same_node node) refl)
      (λ node. ap (λ t. record { kind = UnresolvedVariable; of = t } ∷ []) text_is ∙ ap (map without_place) (sym (alone node)))
      (λ node. ap (λ a. Some (argued_value meaning old.arguments name a)) (sym found.1)
      ∙ ap (λ t. Some (bound_value meaning old.arguments name t)) (sym none))
