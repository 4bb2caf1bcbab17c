use Rattle.std.proofs.Common.{sym, ◌∙◌}
use Rattle.mf_functions.proofs.Calls.{string_given}
use Rattle.mf_functions.proofs.string.string_fn.Goals as goal

pub returns : goal.returns
returns c =
    string_given _ c.args.options.now c.in-Some.text c.text_value.result c.in_ok-faults.faults (sym c.in_ok-text.ensures ∙ c.in-Some.is) c.text_value.ensures c.in_ok-faults.ensures
