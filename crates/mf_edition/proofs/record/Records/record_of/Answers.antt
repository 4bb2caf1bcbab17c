use Rattle.std.proofs.Common.{Some, ap, ◌∙◌}
use Rattle.mf_edition.specs.Records.{record_of}
use Rattle.mf_edition.proofs.RecordMap.{record_found}
use Rattle.mf_edition.proofs.record.Records.record_of.Goals as goal

pub returns-in-Some : goal.returns-in-Some
returns-in-Some c =
    ap Some c.as_record.ensures
    ∙ c.in-Some.ensures.value
    ∙ record_found c.self.inside.by_tag.entries c.args.tag.now
    ∙ ap (λ records. record_of records c.args.tag.now) c.self.view_is

pub returns-in-None : goal.returns-in-None
returns-in-None c =
    c.in-None.ensures.value
    ∙ record_found c.self.inside.by_tag.entries c.args.tag.now
    ∙ ap (λ records. record_of records c.args.tag.now) c.self.view_is
