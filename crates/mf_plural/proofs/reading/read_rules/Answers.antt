use Rattle.std.proofs.Common.{◌∙◌, ◌+◌, ◌≤◌, [], ap, sym, subst, length}
use Rattle.mf_plural.specs.Computed.{new_rule}
use Rattle.mf_plural.proofs.Numbering.{blank_texts, front_bad, front_computed, front_more, front_numbered, front_short, front_start, front_whole, ReadsFront}
use Rattle.mf_plural.proofs.reading.read_rules.Goals as goal

pub next_number-requires : goal.next_number-requires
next_number-requires c =
    subst (λ rules. length rules ≤ 6) (sym c.as_slice-in_default.ensures) (front_short c.args.text.now c.loop-rest.rest.now c.loop-rest.rules c.loop-rest.invariant)

pub returns-in_default-clause-bad : goal.returns-in_default-clause-bad
returns-in_default-clause-bad c =
    front_bad c.args.text.now c.loop-rest.rest.now c.first_rule.result.0.now c.first_rule.result.1.now c.loop-rest.rules c.next_number.result c.loop-rest.invariant
    c.first_rule.ensures.texts (sym c.in_default.is ∙ c.in_ok-rule.ensures ∙ ap (λ rules. new_rule rules c.first_rule.result.0.now) c.as_slice.ensures)
    (c.next_number.ensures ∙ ap (λ rules. length rules + 1) c.as_slice-in_default.ensures)

pub loop-rest-init : goal.loop-rest-init
loop-rest-init c =
    subst (λ rules. ReadsFront c.args.text.now c.as_bytes-rest.result.now rules) (sym c.new-rules.ensures)
    (subst (λ rest. ReadsFront c.args.text.now rest []) (sym c.as_bytes-rest.ensures.value) (front_start c.args.text.now))

pub loop-rest-preserved : goal.loop-rest-preserved
loop-rest-preserved c =
    front_more c.args.text.now c.loop-rest.rest.now c.first_rule.result.0.now c.first_rule.result.1.now c.loop-rest.rules c.push.new.self c.in-Some.rule
    c.loop-rest.invariant c.first_rule.ensures.texts
    (sym c.in-Some.is ∙ c.in_ok-rule.ensures ∙ ap (λ rules. new_rule rules c.first_rule.result.0.now) c.as_slice.ensures) c.in_ok-push.ensures.ok

pub returns-clause-spelled : goal.returns-clause-spelled
returns-clause-spelled c =
    front_whole c.args.text.now c.loop-rest.rest.now c.loop-rest.rules c.loop-rest.invariant
    (blank_texts c.loop-rest.rest.now (sym c.loop-rest-test.ensures))

pub returns-in_default-clause-numbered : goal.returns-in_default-clause-numbered
returns-in_default-clause-numbered c =
    front_numbered c.args.text.now c.loop-rest.rest.now c.first_rule.result.0.now c.first_rule.result.1.now c.loop-rest.rules c.next_number.result c.loop-rest.invariant
    c.first_rule.ensures.texts (sym c.in_default.is ∙ c.in_ok-rule.ensures ∙ ap (λ rules. new_rule rules c.first_rule.result.0.now) c.as_slice.ensures)
    (c.next_number.ensures ∙ ap (λ rules. length rules + 1) c.as_slice-in_default.ensures)

pub returns-clause-computed : goal.returns-clause-computed
returns-clause-computed c =
    front_computed c.args.text.now c.loop-rest.rest.now c.loop-rest.rules c.loop-rest.invariant
    (blank_texts c.loop-rest.rest.now (sym c.loop-rest-test.ensures))
