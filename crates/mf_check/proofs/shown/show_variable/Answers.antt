use Rattle.std.proofs.Common.{◌∷◌, [], ◌++◌, ap, ◌∙◌}
use Rattle.std.specs.Str.{chars}
use Rattle.mf_check.proofs.Texts.{ascii_before, dollar}
use Rattle.mf_check.proofs.shown.show_variable.Goals as goal

pub returns : goal.returns
returns c =
    c.from.ensures
    ∙ ap chars c.in_ok-push_str.ensures.bytes
    ∙ ap (λ front. chars (front ++ c.as_str.result.now)) c.in_ok-text.ensures.ok
    ∙ ascii_before (36 ∷ []) c.as_str.result.now dollar
    ∙ ap (λ value. 36 ∷ value) c.as_str.ensures.characters
