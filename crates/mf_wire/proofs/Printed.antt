-- What a buffer holds that was empty, after a value was written.
use Rattle.std.proofs.Common.{◌≡◌, ◌∙◌, [], ◌++◌, ap, ap₂}
use Rattle.json.specs.Print.{print}
use Rattle.json.specs.Written.{Written}
use Rattle.serde_json.specs.Data.{Data}
use Rattle.serde_json.specs.Written.{compact_text}
use Rattle.serde_json.proofs.Texts.{print-outline}
use Rattle.mf_wire.specs.Writing.{Writes, data_tokens}

pub printed : (d : Data) (old new : Written) → old.before ≡ [] → old.tokens ≡ [] → Writes d old new → new.before ++ print new.tokens ≡ compact_text d
printed d old new empty none wrote =
    ap₂ (λ front tokens. front ++ print tokens) (wrote.before ∙ empty) (wrote.tokens ∙ ap (λ tokens. tokens ++ data_tokens d) none)
    ∙ print-outline d
