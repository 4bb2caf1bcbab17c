use Rattle.std.proofs.Common.{rules, ap, sym, ◌∙◌, Some, pos, subst, w64, SFits}
use Rattle.std.proofs.lemmas.Int.{to_z-of_z}
use Rattle.mf_decimal.specs.Whole.{IsWhole}
use Rattle.mf_decimal.specs.Text.{exact_text}
use Rattle.mf_value.specs.Traces.{argument_value}
use Rattle.mf_value.specs.Values.{option_text as text_of}
use Rattle.mf_resolve.proofs.Wholes.{whole_is}
use Rattle.mf_resolve.proofs.option.argument_text.Goals as goal

pub returns-in_ok-exact_text-in-Signed : goal.returns-in_ok-exact_text-in-Signed
returns-in_ok-exact_text-in-Signed c =
    let fits : SFits w64 c.in-Signed.number = search rules in
    λ dir.
    ap Some (c.from.ensures ∙ c.in_ok-exact_text-in-Signed.ensures.characters)
    ∙ ap (λ amount. Some (exact_text amount)) (whole_is c.in-Signed.number c.of_i64.result (subst (IsWhole c.of_i64.result) (to_z-of_z w64 c.in-Signed.number fits) c.of_i64.ensures))
    ∙ ap (λ argued. text_of (argument_value dir argued).content) (sym c.in-Signed.is)

pub returns-in_ok-exact_text-in-Unsigned : goal.returns-in_ok-exact_text-in-Unsigned
returns-in_ok-exact_text-in-Unsigned c =
    λ dir.
    ap Some (c.from-in-Unsigned.ensures ∙ c.in_ok-exact_text-in-Unsigned.ensures.characters)
    ∙ ap (λ amount. Some (exact_text amount)) (whole_is (pos c.in-Unsigned.number) c.of_u64.result c.of_u64.ensures)
    ∙ ap (λ argued. text_of (argument_value dir argued).content) (sym c.in-Unsigned.is)
