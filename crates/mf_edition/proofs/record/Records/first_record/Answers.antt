-- The first tag that has a record is looked for from the longest on.
use Rattle.std.proofs.Common.{◌≡◌, ℕ, List, None, Some, take, ap, sym, ◌∙◌, lit<, arith}
use Rattle.std.proofs.lemmas.Str.Pattern.{rfind_char}
use Rattle.std.specs.List.{slice_range}
use Rattle.std.specs.Option.{option_or}
use Rattle.mf_locale.proofs.Truncations.{truncations_at, truncations_one, IsLastHyphen}
use Rattle.mf_locale.specs.Chain.{truncations}
use Rattle.mf_edition.specs.Records.{first_record, record_of}
use Rattle.mf_edition.proofs.RecordChain.{option_or_none}
use Rattle.mf_edition.proofs.record.Records.first_record.Goals as goal

range_is : (text : List ℕ) (at : ℕ) → slice_range text 0 at ≡ take at text
range_is text at = grind arith

pub returns-in-Some-record_of : goal.returns-in-Some-record_of
returns-in-Some-record_of c =
    let places = c.args.self.now in
    let rest = c.loop-hyphen.rest.now in
    let place = rfind_char 45 rest (Some c.in-Some.hyphen) c.in-Some.ensures.cases (lit< tt) in
    let cut : IsLastHyphen rest c.in-Some.hyphen = record { inside = place.0; hyphen = place.1; last = place.2 } in
    ap (λ o. option_or o (first_record places (truncations (take c.in-Some.hyphen rest)))) c.in-Some-record_of.ensures
    ∙ ap (first_record places) (sym (truncations_at rest c.in-Some.hyphen cut))
    ∙ c.loop-hyphen.invariant.1

pub loop-hyphen-preserved : goal.loop-hyphen-preserved
loop-hyphen-preserved c =
    let places = c.args.self.now in
    let rest = c.loop-hyphen.rest.now in
    let place = rfind_char 45 rest (Some c.in-Some.hyphen) c.in-Some.ensures.cases (lit< tt) in
    let cut : IsLastHyphen rest c.in-Some.hyphen = record { inside = place.0; hyphen = place.1; last = place.2 } in (
      c.range-rest.utf8,
      ap (λ t. first_record places (truncations t)) (c.range-rest.ensures.value ∙ range_is rest c.in-Some.hyphen)
          ∙ ap (λ o. option_or o (first_record places (truncations (take c.in-Some.hyphen rest)))) c.in_default-record_of.ensures
          ∙ ap (first_record places) (sym (truncations_at rest c.in-Some.hyphen cut))
          ∙ c.loop-hyphen.invariant.1,
    )

pub returns : goal.returns
returns c =
    let places = c.args.self.now in
    let rest = c.loop-hyphen.rest.now in
    let none = rfind_char 45 rest None c.in_default.ensures.cases (lit< tt) in
    c.record_of-2.ensures
    ∙ sym (option_or_none (record_of places rest))
    ∙ ap (first_record places) (sym (truncations_one rest none))
    ∙ c.loop-hyphen.invariant.1
