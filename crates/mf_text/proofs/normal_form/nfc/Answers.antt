-- The bytes of the form are those of its characters.
use Rattle.std.proofs.Common.{chars, string_bytes, ◌∙◌}
use Rattle.std.proofs.lemmas.Str.{encodes-chars, encodes_same, IsUtf8-string_bytes}
use Rattle.unicode_normalization.specs.Forms.{nfc as nfc_of}
use Rattle.mf_text.proofs.normal_form.nfc.Goals as goal

pub returns : goal.returns
returns c =
    let bytes = string_bytes c.in_ok-normal.normal in
    c.from.ensures ∙ encodes_same (chars bytes) (nfc_of (chars c.args.text.now)) (encodes-chars bytes (IsUtf8-string_bytes c.in_ok-normal.normal) ∙ c.in_ok-normal.ensures)
