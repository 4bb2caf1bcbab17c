-- After the truncations of the tag comes `und`.
use Rattle.std.proofs.Common.{ap, sym, ◌∙◌, encode_utf8_all}
use Rattle.std.specs.Option.{option_or, unwrap_or}
use Rattle.mf_locale.proofs.Truncations.{encode-IsLowerTag}
use Rattle.mf_locale.specs.Chain.{truncations, und}
use Rattle.mf_locale.specs.Records.{root_record}
use Rattle.mf_edition.specs.Records.{first_record, record_of}
use Rattle.mf_edition.proofs.RecordChain.{first_record_und, unwrap_copied}
use Rattle.mf_edition.proofs.record.Records.place_for.Goals as goal

pub returns-in-Some : goal.returns-in-Some
returns-in-Some c =
    let places = c.args.self.now in
    let tag = c.as_str.ensures.bytes ∙ ap encode_utf8_all c.as_text.ensures.text ∙ encode-IsLowerTag c.args.tag.now c.as_text.ensures.tag in
    ap (λ o. unwrap_or (option_or o (record_of places und)) root_record) (c.in-Some.ensures ∙ ap (λ t. first_record places (truncations t)) tag)
    ∙ ap (λ o. unwrap_or o root_record) (sym (first_record_und places (truncations c.args.tag.now)))

pub returns : goal.returns
returns c =
    let places = c.args.self.now in
    let tag = c.as_str.ensures.bytes ∙ ap encode_utf8_all c.as_text.ensures.text ∙ encode-IsLowerTag c.args.tag.now c.as_text.ensures.tag in
    ap (λ r. r.now) c.unwrap_or.ensures
    ∙ unwrap_copied c.record_of.result c.args.root
    ∙ ap (λ o. unwrap_or o c.args.root.now) c.record_of.ensures
    ∙ ap (unwrap_or (record_of places und)) c.requires
    ∙ ap (λ o. unwrap_or (option_or o (record_of places und)) root_record) (c.in_default.ensures ∙ ap (λ t. first_record places (truncations t)) tag)
    ∙ ap (λ o. unwrap_or o root_record) (sym (first_record_und places (truncations c.args.tag.now)))
