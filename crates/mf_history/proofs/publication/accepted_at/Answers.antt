use Rattle.std.proofs.Common.{◌≡◌, ◌∙◌, ◌-◌, None, Some, slice_get, ap, sym, arith}
use Rattle.std.specs.Option.{option_copied}
use Rattle.std.proofs.lemmas.Bool.{true≢false}
use Rattle.std.proofs.lemmas.Option.{none-some, same_Some}
use Rattle.mf_edition.specs.declared.change.Entry.{Entry}
use Rattle.mf_transcript.specs.Steps.{next_entry}
use Rattle.mf_wire.specs.Replies.{op_of, reply_line}
use Rattle.mf_wire.specs.declared.reply.Reply.TheVariants as reply
use Rattle.mf_history.proofs.Accepting.{accepted_entry, accepted_named, accepted_read, entry_before, some_inside}
use Rattle.mf_history.proofs.publication.accepted_at.Goals as goal

pub returns-in_default-clause-none : goal.returns-in_default-clause-none
returns-in_default-clause-none c =
    λ k is. none-some k (sym c.in_default.is
    ∙ accepted_named c.args.log.now c.args.caller c.args.place.now c.args.change.now c.args.said.now c.requires.log k is c.edition_named.result c.edition_named.ensures)

pub returns-then-k-number-clause-none : goal.returns-then-k-number-clause-none
returns-then-k-number-clause-none c =
    λ k is.
    let same = accepted_read c.args.log.now c.args.caller c.args.place.now c.args.change.now c.args.said.now c.requires.log k c.in-Some.k is
    c.edition_named.result c.edition_named.ensures c.in-Some.is in
    omega (arith, same, is.above, c.if-k-number.true, c.number.ensures)

pub returns-in_default-get-clause-none : goal.returns-in_default-get-clause-none
returns-in_default-get-clause-none c =
    λ k is.
    let same = accepted_read c.args.log.now c.args.caller c.args.place.now c.args.change.now c.args.said.now c.requires.log k c.in-Some.k is
    c.edition_named.result c.edition_named.ensures c.in-Some.is in
    let found = accepted_entry c.args.log.now c.args.caller c.args.place.now c.args.change.now c.args.said.now c.requires.log k is in
    let none : slice_get c.args.log.now (k - 1) ≡ None = ap (λ n. slice_get c.args.log.now (n - 1)) (sym same) ∙ sym c.get.ensures ∙ ap option_copied c.in_default-get.is in
    none-some (next_entry c.args.caller c.args.place.now.made c.args.change.now) (sym none ∙ found)

pub returns-then-not-is_next-clause-none : goal.returns-then-not-is_next-clause-none
returns-then-not-is_next-clause-none c =
    λ k is.
    let same = accepted_read c.args.log.now c.args.caller c.args.place.now c.args.change.now c.args.said.now c.requires.log k c.in-Some.k is
    c.edition_named.result c.edition_named.ensures c.in-Some.is in
    let found = accepted_entry c.args.log.now c.args.caller c.args.place.now c.args.change.now c.args.said.now c.requires.log k is in
    let here : slice_get c.args.log.now (k - 1) ≡ Some c.in-Some-get.entry.now
    = ap (λ n. slice_get c.args.log.now (n - 1)) (sym same) ∙ sym c.get.ensures ∙ ap option_copied c.in-Some-get.is in
    true≢false (sym (c.is_next.ensures.1 (same_Some c.in-Some-get.entry.now (next_entry c.args.caller c.args.place.now.made c.args.change.now) (sym here ∙ found)))
    ∙ c.if-not-is_next.true)

pub returns-then-is-clause-some : goal.returns-then-is-clause-some
returns-then-is-clause-some c =
    let here : slice_get c.args.log.now (c.in-Some.k - 1) ≡ Some c.in-Some-get.entry.now = sym c.get.ensures ∙ ap option_copied c.in-Some-get.is in
    record {
      above = omega (arith, c.if-k-number.false, c.number.ensures);
      within = omega (arith, some_inside c.args.log.now (c.in-Some.k - 1) c.in-Some-get.entry.now here, c.if-k-number.false);
      entry = entry_before c.args.log.now c.in-Some.k (omega (arith, c.if-k-number.false)) ∙ here ∙ ap (λ (e : Entry). Some e) (c.is_next.ensures.0 c.if-not-is_next.false);
      replied = c.in_ok-is.ensures.0 c.if-is.true ∙ ap (λ op. reply_line (reply.Accepted c.in-Some.k op)) c.of-op.ensures;
    }

pub returns-else-is-clause-none : goal.returns-else-is-clause-none
returns-else-is-clause-none c =
    λ k is.
    let same = accepted_read c.args.log.now c.args.caller c.args.place.now c.args.change.now c.args.said.now c.requires.log k c.in-Some.k is
    c.edition_named.result c.edition_named.ensures c.in-Some.is in
    true≢false (sym (c.in_ok-is.ensures.1 (is.replied ∙ ap (λ n. reply_line (reply.Accepted n (op_of c.args.change.now))) (sym same)
    ∙ ap (λ op. reply_line (reply.Accepted c.in-Some.k op)) (sym c.of-op.ensures))) ∙ c.if-is.false)
