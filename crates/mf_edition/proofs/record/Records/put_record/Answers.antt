use Rattle.std.proofs.Common.{ap, ◌∙◌}
use Rattle.mf_edition.specs.RecordMap.{records_in}
use Rattle.mf_edition.specs.Records.{put_record}
use Rattle.mf_edition.proofs.RecordMap.{key_of_tag, records_put}
use Rattle.mf_edition.proofs.record.Records.put_record.Goals as goal

pub returns-clause-ok : goal.returns-clause-ok
returns-clause-ok c =
    let key = c.into_string-tag.result in
    let text = c.into_string-tag.ensures ∙ c.in_ok-clone.ensures.cases ∙ c.as_text.ensures.text in
    let tag = key_of_tag key c.args.tag.now c.as_text.ensures.tag text in
    ap records_in c.in_ok-insert.ensures.entries
    ∙ records_put c.self.inside.by_tag.entries key c.in_ok-shared.shared
    ∙ λ i. put_record (c.self.view_is i) (record { tag = tag i; shared = c.in_ok-shared.ensures.cases i })
