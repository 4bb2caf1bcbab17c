use Rattle.std.proofs.Common.{◌∷◌, [], ◌++◌, cond, ap, sym, ◌∙◌}
use Rattle.std.proofs.lemmas.Str.{chars-nil}
use Rattle.std.specs.Str.{chars}
use Rattle.mf_tree.specs.declared.fault.Kind.TheVariants.{MissingFallbackVariant}
use Rattle.mf_check.proofs.fallback.add_missing_fallback.Goals as goal

pub returns : goal.returns
returns c =
    c.in_ok-push.ensures.ok
    ∙ ap (λ of. c.args.found.now ++ record { kind = MissingFallbackVariant; of = of } ∷ []) (c.from.ensures ∙ ap chars c.new.ensures.bytes ∙ chars-nil)
    ∙ ap (λ b. c.args.found.now ++ cond b [] (record { kind = MissingFallbackVariant; of = [] } ∷ [])) (sym c.if-has_fallback_variant.false ∙ c.has_fallback_variant.ensures)
