-- A text is cut at its last hyphen, and `und` stands behind a text without one.
use Rattle.std.proofs.Common.{◌≡◌, ◌∷◌, ◌∙◌, ℕ, List, None, Some, length, take, ap, sym, lit<, arith}
use Rattle.std.proofs.Math.Seq.{take-length}
use Rattle.std.proofs.lemmas.Str.Pattern.{rfind_char}
use Rattle.std.specs.List.{slice_range}
use Rattle.mf_locale.specs.Chain.{chain_of}
use Rattle.mf_locale.proofs.Chains.{chain_at, chain_ends, chain_last}
use Rattle.mf_locale.proofs.Truncations.{truncations_one, IsLastHyphen}
use Rattle.mf_locale.proofs.lookup.next_in_chain.Goals as goal

range_is : (text : List ℕ) (at : ℕ) → slice_range text 0 at ≡ take at text
range_is text at = grind arith

range_all : (text : List ℕ) (at : ℕ) → slice_range (take (length text) text) 0 at ≡ take at text
range_all text at = ap (λ t. slice_range t 0 at) (take-length text) ∙ range_is text at

pub returns-in-Some : goal.returns-in-Some
returns-in-Some c =
    let text = c.args.tag.now in
    let found = rfind_char 45 text (Some c.in-Some.hyphen) c.in-Some.ensures.cases (lit< tt) in
    let cut : IsLastHyphen text c.in-Some.hyphen = record { inside = found.0; hyphen = found.1; last = found.2 } in
    chain_at text c.in-Some.hyphen cut ∙ ap (λ t. text ∷ chain_of t) (sym (c.range.ensures.value ∙ range_all text c.in-Some.hyphen))

pub returns-in-None : goal.returns-in-None
returns-in-None c =
    let text = c.args.tag.now in
    chain_last text (truncations_one text (rfind_char 45 text None c.in-None.ensures.cases (lit< tt))) (sym c.eq.ensures ∙ c.if-eq.true)

pub returns-in-None-2 : goal.returns-in-None-2
returns-in-None-2 c =
    let text = c.args.tag.now in
    chain_ends text (truncations_one text (rfind_char 45 text None c.in-None.ensures.cases (lit< tt))) (sym c.eq.ensures ∙ c.if-eq.false)
