use Rattle.std.proofs.Common.{◌≡◌, ◌∙◌, ap, sym, Bool, true, false, cond, None, List, ℕ, refl}
use Rattle.std.proofs.lemmas.Str.{is_utf8-from_IsUtf8, IsUtf8-from_is_utf8}
use Rattle.std.specs.Str.{is_utf8, IsUtf8}
use Rattle.serde_json.specs.Read.{read}
use Rattle.mf_wire.specs.Reading.{reading}
use Rattle.mf_mill.proofs.tally.read.Goals as goal

not_true : (b : Bool) → (b ≡ true → ⊥) → b ≡ false
not_true true not_so = absurd (not_so refl)
not_true false not_so = refl

no_reading : (line : List ℕ) → (IsUtf8 line → ⊥) → reading line ≡ None
no_reading line no_text =
    ap (λ (b : Bool). cond b (read line) None) (not_true (is_utf8 line) (λ e. no_text (IsUtf8-from_is_utf8 line e)))

text_reading : (line : List ℕ) → IsUtf8 line → reading line ≡ read line
text_reading line text = ap (λ (b : Bool). cond b (read line) None) (is_utf8-from_IsUtf8 line text)

pub returns-in_default : goal.returns-in_default
returns-in_default c = sym (no_reading c.args.line.now c.in_default.ensures.cases.0)

pub returns-in-Ok-from_str : goal.returns-in-Ok-from_str
returns-in-Ok-from_str c = sym (
    text_reading c.args.line.now c.in-Ok.ensures.cases.1
    ∙ ap read (sym c.in-Ok.ensures.cases.0)
    ∙ c.in-Ok-from_str.ensures.ok)
