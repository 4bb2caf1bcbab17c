use Rattle.std.proofs.Common.{◌∙◌, Ok, ap}
use Rattle.serde_json.specs.View.{view}
use Rattle.mf_locale.proofs.Read.{record_is, same_record}
use Rattle.mf_locale.proofs.reading.read_record.Goals as goal

pub returns-clause-ok : goal.returns-clause-ok
returns-clause-ok c =
    record_is (view c.args.value.now) c.in_ok-dir.dir c.in_ok-decimal.decimal c.in_ok-group.group c.in_ok-minus.minus c.in_ok-plus.plus c.in_ok-primary.primary
    c.in_ok-secondary.secondary c.in_ok-min_group.min_group c.in_ok-plural.plural c.in_ok-ordinal.ordinal c.in_ok-read_version.ensures.ok c.in_ok-dir.ensures.ok
    c.in_ok-decimal.ensures.ok c.in_ok-group.ensures.ok c.in_ok-minus.ensures.ok c.in_ok-plus.ensures.ok c.in_ok-primary.ensures.ok c.in_ok-secondary.ensures.ok
    c.in_ok-min_group.ensures.ok c.in_ok-plural.ensures.ok c.in_ok-ordinal.ensures.ok
    ∙ ap (λ r. Ok r) (same_record c.in_ok-dir.dir c.in_ok-decimal.decimal c.in_ok-group.group c.in_ok-minus.minus c.in_ok-plus.plus c.in_ok-primary.primary
    c.in_ok-secondary.secondary c.in_ok-min_group.min_group c.in_ok-plural.plural c.in_ok-ordinal.ordinal _ _ _)
