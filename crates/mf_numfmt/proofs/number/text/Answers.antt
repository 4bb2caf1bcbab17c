use Rattle.std.proofs.Common.{◌∙◌, string_bytes}
use Rattle.std.proofs.lemmas.Str.{encodes-chars, encodes_same, IsUtf8-string_bytes}
use Rattle.mf_numfmt.specs.Signs.{sign_text}
use Rattle.mf_numfmt.specs.NumberText.{whole_text, fraction_text}
use Rattle.mf_numfmt.proofs.Joining.{joined, whole_is}
use Rattle.mf_numfmt.proofs.number.text.Goals as goal

pub returns : goal.returns
returns c =
    let layout = c.args.layout.now in
    let shown = c.args.shown.now in
    let whole = c.of-whole.result in
    let text = c.push_fraction.new.text in
    let written = joined _ _ _ _ _ (sign_text layout c.args.sign shown) (whole_text layout c.args.grouping c.args.min_whole shown.whole)
    (fraction_text layout shown.fraction_len shown.fraction) _
    c.in_ok-text.ensures.bytes c.in_ok-push_str.ensures.bytes c.sign_symbol-sign.ensures c.in_ok-push_whole.ensures
    (whole_is layout c.args.grouping whole.number whole.count c.args.min_whole c.max-digits.result c.is_grouped-grouped.result shown.whole
    c.of-whole.ensures whole.counted c.max-digits.ensures c.is_grouped-grouped.ensures)
    c.in_ok-push_fraction.ensures in
    c.from.ensures ∙ encodes_same _ _ (encodes-chars (string_bytes text) (IsUtf8-string_bytes text) ∙ written)
