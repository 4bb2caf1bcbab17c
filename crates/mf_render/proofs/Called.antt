-- What a call of a function that is built in gives: no handler takes its name.
use Rattle.std.proofs.Common.{◌≡◌, ◌∙◌, true, List, [], Option, Some, None, Result, Ok, Err, IfOk, ap, sym, refl}
use Rattle.std.specs.declared.alloc.AllocError.{AllocError}
use Rattle.mf_value.specs.declared.called.Called.{Called}
use Rattle.std.specs.Option.{is_some}
use Rattle.mf_locale.specs.declared.record.LocaleRecord.{LocaleRecord}
use Rattle.mf_value.specs.declared.built_in.BuiltIn.{BuiltIn}
use Rattle.mf_value.specs.declared.given.Given.{Given}
use Rattle.mf_value.specs.declared.handler.HandlerDef.{HandlerDef}
use Rattle.mf_value.specs.declared.value.Value.{Value}
use Rattle.mf_meaning.specs.Functions.{base_called}
use Rattle.mf_meaning.specs.Handlers.{named_called}

pub known_called : (locale : LocaleRecord) (function : Option BuiltIn) (handler : Option HandlerDef) (operand : Option Value) (options : List Given) →
    is_some function ≡ true → base_called locale function [] operand options ≡ named_called locale function handler operand options
known_called locale None handler operand options known = cc
known_called locale (Some function) handler operand options known = refl

pub known_ok : (locale place : LocaleRecord) (function : Option BuiltIn) (handler : Option HandlerDef) (operand : Option Value) (options : List Given)
    (result : Result Called AllocError) → place ≡ locale → true ≡ is_some function →
    IfOk result (λ (called : Called). called ≡ base_called place function [] operand options) →
    IfOk result (λ (called : Called). called ≡ named_called locale function handler operand options)
known_ok locale place function handler operand options (Ok called) same known is =
    is ∙ ap (λ (record_given : LocaleRecord). base_called record_given function [] operand options) same ∙ known_called locale function handler operand options (sym known)
known_ok locale place function handler operand options (Err error) same known is = tt
