use Rattle.std.proofs.Common.{sym, ◌∙◌}
use Rattle.mf_handlers.proofs.Calls.{table_given}
use Rattle.mf_handlers.proofs.call.table_called.Goals as goal

pub returns : goal.returns
returns c =
    table_given c.args.entries.now c.args.default.now _ c.args.options.now c.in_ok-asked.asked c.in-Some.text c.text_value.result c.in_ok-faults.faults
    c.in_ok-asked.ensures (sym c.in_ok-text.ensures ∙ c.in-Some.is) c.text_value.ensures c.in_ok-faults.ensures
