-- The bytes of a tag are its characters, and its last hyphen is the last 45 among them.
use Rattle.std.proofs.Common.{◌≡◌, ◌<◌, ℕ, List, None, Some, [], ◌∷◌, length, take, ap, sym, ◌∙◌, subst, chars, lit<, arith}
use Rattle.std.specs.List.{slice_range}
use Rattle.std.proofs.lemmas.Str.{chars-IsAscii, IsAscii-take}
use Rattle.std.proofs.lemmas.Str.Pattern.{rfind_char}
use Rattle.mf_locale.specs.Chain.{truncations}
use Rattle.mf_locale.specs.Tag.{IsLowerTag}
use Rattle.mf_locale.proofs.Parts.{IsAscii-tag}
use Rattle.mf_locale.proofs.Truncations.{encode-IsLowerTag, length_at, truncations_at, truncations_one, IsLastHyphen, IsLowerTag_at}
use Rattle.mf_locale.proofs.tag.Tag.shorter.Goals as goal
use Rattle.mf_locale.proofs.tag.Tag.shorter.Goals.{After-rfind, In_ok-text}

kept : (c : After-rfind) → IsLowerTag c.args.self.now
kept c = subst IsLowerTag c.self.view_is c.self.invariant

same : (c : After-rfind) → c.as_str-text.result.now ≡ c.args.self.now
same c = c.as_str-text.ensures.bytes ∙ encode-IsLowerTag c.self.inside.text c.self.invariant ∙ c.self.view_is

pub returns-in_default-clause-truncated : goal.returns-in_default-clause-truncated
returns-in_default-clause-truncated c =
    let none = rfind_char 45 c.as_str-text.result.now None c.in_default.ensures.cases (lit< tt) in
    subst (λ t. truncations t ≡ t ∷ []) (same (goal.at.returns-in_default-clause-truncated c).After-rfind) (truncations_one c.as_str-text.result.now none)

found : (c : In_ok-text) → IsLastHyphen c.args.self.now c.in-Some.hyphen
found c =
    let place = rfind_char 45 c.as_str-text.result.now (Some c.in-Some.hyphen) c.in-Some.ensures.cases (lit< tt) in
    let before : IsLastHyphen c.as_str-text.result.now c.in-Some.hyphen = record { inside = place.0; hyphen = place.1; last = place.2 } in
    subst (λ t. IsLastHyphen t c.in-Some.hyphen) (same (goal.at.invariant_of-result c).After-rfind) before

range_is : (text : List ℕ) (at : ℕ) → slice_range text 0 at ≡ take at text
range_is text at = grind arith

text_is : (c : In_ok-text) → c.in_ok-text.text ≡ take c.in-Some.hyphen c.args.self.now
text_is c =
    c.in_ok-text.ensures
    ∙ ap chars (c.range.ensures.value ∙ range_is c.as_str-text.result.now c.in-Some.hyphen ∙ ap (take c.in-Some.hyphen) (same (goal.at.invariant_of-result c).After-rfind))
    ∙ chars-IsAscii (take c.in-Some.hyphen c.args.self.now) (IsAscii-take c.args.self.now c.in-Some.hyphen (IsAscii-tag c.args.self.now (kept (goal.at.invariant_of-result c).After-rfind).tag))

pub invariant_of-result : goal.invariant_of-result
invariant_of-result c =
    subst IsLowerTag (sym (text_is c)) (IsLowerTag_at c.args.self.now c.in-Some.hyphen (kept (goal.at.invariant_of-result c).After-rfind) (found c))

pub returns-clause-truncated : goal.returns-clause-truncated
returns-clause-truncated c =
    truncations_at c.args.self.now c.in-Some.hyphen (found c) ∙ ap (λ t. c.args.self.now ∷ truncations t) (sym (text_is c))

pub returns-clause-shorter : goal.returns-clause-shorter
returns-clause-shorter c =
    subst (λ t. length t < length c.args.self.now) (sym (text_is c)) (length_at c.args.self.now c.in-Some.hyphen (found c))
