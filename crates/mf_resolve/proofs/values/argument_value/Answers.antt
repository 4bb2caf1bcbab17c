use Rattle.std.proofs.Common.{rules, ap, sym, ◌∙◌, pos, subst, w64, SFits}
use Rattle.std.proofs.lemmas.Int.{to_z-of_z}
use Rattle.mf_decimal.specs.Whole.{IsWhole}
use Rattle.mf_value.specs.Traces as traces
use Rattle.mf_resolve.proofs.Wholes.{whole_is}
use Rattle.mf_resolve.proofs.values.argument_value.Goals as goal

pub returns-in-Signed : goal.returns-in-Signed
returns-in-Signed c =
    let fits : SFits w64 c.in-Signed.number = search rules in
    c.plain_number.ensures
    ∙ ap (traces.plain_number c.args.dir) (whole_is c.in-Signed.number c.of_i64.result (subst (IsWhole c.of_i64.result) (to_z-of_z w64 c.in-Signed.number fits) c.of_i64.ensures))
    ∙ ap (traces.argument_value c.args.dir) (sym c.in-Signed.is)

pub returns-in-Unsigned : goal.returns-in-Unsigned
returns-in-Unsigned c =
    c.plain_number-in-Unsigned.ensures
    ∙ ap (traces.plain_number c.args.dir) (whole_is (pos c.in-Unsigned.number) c.of_u64.result c.of_u64.ensures)
    ∙ ap (traces.argument_value c.args.dir) (sym c.in-Unsigned.is)
