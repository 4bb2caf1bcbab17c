use Rattle.std.proofs.Common.{◌∷◌, [], ◌++◌, ap, sym, ◌∙◌}
use Rattle.std.specs.Str.{chars}
use Rattle.mf_tree.specs.Faults.{namespace_text}
use Rattle.mf_check.proofs.Texts.{with_colon}
use Rattle.mf_check.proofs.shown.show_identifier.Goals as goal

pub returns-in_ok-push_str-in-Some-2 : goal.returns-in_ok-push_str-in-Some-2
returns-in_ok-push_str-in-Some-2 c =
    let name = c.args.identifier.now.name.value in
    c.from.ensures
    ∙ ap chars c.in_ok-push_str-in-Some-2.ensures.bytes
    ∙ ap (λ front. chars (front ++ c.as_str-in-Some.result.now)) c.in_ok-push_str-in-Some.ensures.bytes
    ∙ ap (λ front. chars ((front ++ 58 ∷ []) ++ c.as_str-in-Some.result.now)) c.in_ok-text-in-Some.ensures.ok
    ∙ with_colon c.as_str.result.now c.as_str-in-Some.result.now c.in-Some.namespace.value name c.as_str.utf8 c.as_str.ensures.characters c.as_str-in-Some.ensures.characters
    ∙ ap (λ namespace. namespace_text namespace ++ name) (sym c.in-Some.is)
