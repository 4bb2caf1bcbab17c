-- What a call gives, put together.
use Rattle.std.proofs.Common.{◌≡◌, ℕ, Bool, false, List, sym, ap, subst, ◌∙◌}
use Rattle.std.specs.Prelude.{Option, Some, option_map}
use Rattle.mf_decimal.specs.declared.decimal.Decimal.{Decimal}
use Rattle.mf_locale.specs.declared.record.LocaleRecord.{LocaleRecord}
use Rattle.mf_text.specs.declared.pair.Pair.{Pair}
use Rattle.mf_value.specs.declared.called.CallFault.{CallFault}
use Rattle.mf_value.specs.declared.called.Called.{Called}
use Rattle.mf_value.specs.declared.given.Given.{Given}
use Rattle.mf_value.specs.declared.kept.Kept.{Kept}
use Rattle.mf_value.specs.declared.number_option.NumberFunction.{NumberFunction}
use Rattle.mf_value.specs.declared.value.Value.{Value}
use Rattle.mf_meaning.specs.Functions.{called_with, operand_text, text_value, string_called, operand_number, number_after, number_value, number_called, amount_of, refused_options}
use Rattle.mf_meaning.specs.Kept.{kept_after}
use Rattle.mf_meaning.specs.Options.{is_allowed, selects_by_variable}

gives : Option Value → List CallFault → Called
gives value faults = record { value = value; faults = faults }

pub number_given : (locale : LocaleRecord) (function : NumberFunction) (presets : List Pair) (operand : Option Value) (options : List Given) (amount whole : Decimal) (k kept : Kept) (by_variable : Bool) (value : Value) (refused : List CallFault) → operand_number operand ≡ Some (amount, k) → whole ≡ amount_of function amount → kept ≡ kept_after function options presets k → by_variable ≡ selects_by_variable function options → value ≡ number_value locale whole kept by_variable → refused ≡ refused_options (is_allowed function) options → (let c : Called = record { value = Some value; faults = refused } in c) ≡ number_called locale function presets operand options
unfolding gives
number_given locale function presets operand options amount whole k kept by_variable value refused e a f g v r =
    let P : Option (Decimal × Kept) → Type 0 = λ o. gives (Some value) refused ≡ called_with (option_map (number_after locale function options presets) o) (refused_options (is_allowed function) options) in
    let is : value ≡ number_after locale function options presets (amount, k) =
    v ∙ ap (λ (x : Decimal). number_value locale x kept by_variable) a
    ∙ ap (λ (x : Kept). number_value locale (amount_of function amount) x by_variable) f
    ∙ ap (λ (x : Bool). number_value locale (amount_of function amount) (kept_after function options presets k) x) g in
    subst P (sym e) (ap (λ (x : Value). gives (Some x) refused) is ∙ ap (λ (x : List CallFault). gives (Some (number_after locale function options presets (amount, k))) x) r)

pub string_given : (operand : Option Value) (options : List Given) (text : List ℕ) (value : Value) (refused : List CallFault) → operand_text operand ≡ Some text → value ≡ text_value text → refused ≡ refused_options (λ given. false) options → (let c : Called = record { value = Some value; faults = refused } in c) ≡ string_called operand options
unfolding gives
string_given operand options text value refused e v r =
    let P : Option (List ℕ) → Type 0 = λ o. gives (Some value) refused ≡ called_with (option_map text_value o) (refused_options (λ given. false) options) in
    subst P (sym e) (ap (λ (x : Value). gives (Some x) refused) v ∙ ap (λ (x : List CallFault). gives (Some (text_value text)) x) r)
