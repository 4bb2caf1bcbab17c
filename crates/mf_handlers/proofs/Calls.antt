-- What a table gives, put together.
use Rattle.std.proofs.Common.{◌≡◌, ℕ, false, List, sym, ap, subst, ◌∙◌}
use Rattle.std.specs.Prelude.{Option, Some, option_and_then, option_map}
use Rattle.mf_text.specs.declared.pair.Pair.{Pair}
use Rattle.mf_value.specs.declared.called.CallFault.{CallFault}
use Rattle.mf_value.specs.declared.called.Called.{Called}
use Rattle.mf_value.specs.declared.given.Given.{Given}
use Rattle.mf_value.specs.declared.value.Value.{Value}
use Rattle.mf_meaning.specs.Functions.{called_with, operand_text, text_value, refused_options}
use Rattle.mf_meaning.specs.Handlers.{table_text, table_called}

gives : Option Value → List CallFault → Called
gives value faults = record { value = value; faults = faults }

pub table_given : (entries : List Pair) (default : Option (List ℕ)) (operand : Option Value) (options : List Given) (asked : Option (List ℕ)) (text : List ℕ) (value : Value) (refused : List CallFault) → asked ≡ operand_text operand → option_and_then (table_text entries default) asked ≡ Some text → value ≡ text_value text → refused ≡ refused_options (λ given. false) options → (let c : Called = record { value = Some value; faults = refused } in c) ≡ table_called entries default operand options
unfolding gives
table_given entries default operand options asked text value refused e f v r =
    let P : Option (List ℕ) → Type 0 = λ o. gives (Some value) refused ≡ called_with (option_map text_value o) (refused_options (λ given. false) options) in
    subst P (sym (ap (option_and_then (table_text entries default)) (sym e) ∙ f)) (ap (λ (x : Value). gives (Some x) refused) v ∙ ap (λ (x : List CallFault). gives (Some (text_value text)) x) r)
