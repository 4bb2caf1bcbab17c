use Rattle.std.proofs.Common.{sym, ap, subst, ◌∙◌}
use Rattle.mf_functions.specs.declared.written.Written.{Written}
use Rattle.mf_functions.specs.Written.{IsKept, AreInRange}
use Rattle.mf_functions.proofs.Calls.{number_given}
use Rattle.mf_functions.proofs.Settings.{kept_is, are_in_range, by_variable_read}
use Rattle.mf_functions.proofs.number.number_called.Goals as goal

pub returns : goal.returns
returns c =
    let r = c.in_ok-written.ensures in
    let function = c.args.function in
    let options = c.args.options.now in
    let presets = c.args.presets.now in
    let k = c.in-Some.inherited in
    let kept = c.kept_after-kept in
    let P : Written → Type 0 = λ w. IsKept function w k kept.result in
    number_given c.args.record.now function presets _ options c.in-Some.amount c.amount_of.result k kept.result _ c.number_value-value.result c.in_ok-written.field-0.refused
    (sym c.operand_number.ensures ∙ c.in-Some.is) c.amount_of.ensures (kept_is function options presets k kept.result (subst P r.written kept.ensures))
    (ap (λ (w : Written). w.by_variable) r.written ∙ by_variable_read function options presets) c.number_value-value.ensures r.refused

pub kept_after-kept-requires : goal.kept_after-kept-requires
kept_after-kept-requires c = let P : Written → Type 0 = λ w. AreInRange w in
    record { in_range = subst P (sym c.in_ok-written.ensures.written) (are_in_range c.args.function c.args.options.now c.args.presets.now) }
