use Rattle.std.proofs.Common.{◌≡◌, ◌≢◌, ◌∙◌, ◌↔◌, ℕ, Bool, true, false, List, Ok, refl, ap, sym, arith}
use Rattle.std.specs.Prelude.{IsTrue}
use Rattle.std.proofs.lemmas.Bool.{true≢false}
use Rattle.std.proofs.lemmas.Option.{none-some, same_Some}
use Rattle.std.proofs.lemmas.Result.{IfOk-weaker}
use Rattle.mf_transcript.specs.Asked.{request_of}
use Rattle.mf_wire.specs.Replies.{memory_line, reply_line}
use Rattle.mf_wire.specs.declared.reply.Reply.TheVariants as reply
use Rattle.mf_wire.specs.declared.request.Request.TheVariants as request
use Rattle.mf_history.specs.Places.{Reads}
use Rattle.mf_history.specs.declared.numbers.Counts.{Counts}
use Rattle.mf_history.proofs.Stats.{counts_go, counts_items, counts_served, has_counts}
use Rattle.mf_history.proofs.counting.count.Goals.{then-edition-number-via-then-edition-number, then-edition-number-via-else-edition-number+then-edition-len, then-quits-most-via-then-quits-most, then-quits-most-via-else-quits-most+then-not-are_within}
use Rattle.mf_history.proofs.counting.count.Goals as goal

pub returns-in_default : goal.returns-in_default
returns-in_default c = λ caller line asked loud before stands after step shows.
    let counts = has_counts c.args.most c.args.log.now caller line c.args.said.now asked c.args.place.now c.args.place.now before stands
    c.requires.log c.requires.few loud c.counts_named.result c.counts_named.ensures after step shows in
    none-some _ (sym c.in_default.is ∙ counts.is)

pub returns-then-edition-number : goal.returns-then-edition-number
returns-then-edition-number c = λ caller line asked loud before stands after step shows.
    let counts = has_counts c.args.most c.args.log.now caller line c.args.said.now asked c.args.place.now c.args.place.now before stands
    c.requires.log c.requires.few loud c.counts_named.result c.counts_named.ensures after step shows in
    let edition = ap (λ (n : Counts). n.edition) (same_Some c.in-Some.counts _ (sym c.in-Some.is ∙ counts.is)) in
    elim c.then-edition-number.branch [
      | then-edition-number-via-then-edition-number w ↦ omega (arith, edition, counts.from, w.if-edition-number.true, c.number.ensures)
      | then-edition-number-via-else-edition-number+then-edition-len w ↦ omega (arith, edition, counts.inside, w.if-edition-len.true, w.len.ensures.len)
    ]

pub returns-then-quits-most : goal.returns-then-quits-most
returns-then-quits-most c = λ caller line asked loud before stands after step shows.
    let counts = has_counts c.args.most c.args.log.now caller line c.args.said.now asked c.args.place.now c.go_to.new.place before stands
    c.requires.log c.requires.few loud c.counts_named.result c.counts_named.ensures after step shows in
    let same = same_Some c.in-Some.counts _ (sym c.in-Some.is ∙ counts.is) in
    let there = c.in_ok-go_to.ensures.there ∙ ap (λ (n : Counts). n.edition) same in
    let served = counts_served c.args.most c.args.log.now caller line c.args.said.now asked c.args.place.now c.go_to.new.place before stands c.in_ok-go_to.ensures.moves counts.k there in
    let items = counts_items c.args.most c.args.log.now caller line c.args.said.now asked c.args.place.now c.go_to.new.place before stands c.in_ok-go_to.ensures.moves counts.k there in
    let starts = ap (λ (n : Counts). n.starts) same in
    let quits = ap (λ (n : Counts). n.quits) same in
    elim c.then-quits-most.branch [
      | then-quits-most-via-then-quits-most w ↦ omega (arith, quits, counts.few, w.if-quits-most.true)
      | then-quits-most-via-else-quits-most+then-not-are_within w ↦ true≢false (sym (w.are_within.ensures.1
          (omega (arith, starts, quits, served, counts.least), omega (arith, starts, quits, items, counts.greatest))) ∙ w.if-not-are_within.true)
    ]

pub returns : goal.returns
returns c = IfOk-weaker c.is_line.result _ _ (λ fits is caller line asked loud. by caller line asked loud fits is) c.is_line.ensures
  where
    by : (caller : ℕ) (line : List ℕ) → request_of line ≡ Ok request.Stat → c.args.said.now ≢ memory_line → (fits : Bool)
        → IsTrue fits ↔ (c.args.said.now ≡ reply_line (reply.Stat c.in-Some.counts.edition c.in-Some.counts.starts c.in-Some.counts.quits))
        → Reads c.args.most c.args.log.now caller line c.args.said.now c.args.place.now c.go_to.new.place fits
    by caller line asked loud true is before stands =
        let bounds = c.are_within.ensures.0 c.if-not-are_within.false in
        counts_go c.args.most c.args.log.now caller line c.args.said.now asked c.args.place.now c.go_to.new.place before stands c.in_ok-go_to.ensures.moves
        c.in-Some.counts.edition c.in_ok-go_to.ensures.there c.in-Some.counts.starts c.in-Some.counts.quits
        (omega (arith, c.if-quits-most.false, c.requires.few)) c.if-quits-most.false bounds.0 bounds.1 (is.0 refl)
    by caller line asked loud false is before stands = λ after step shows.
        let counts = has_counts c.args.most c.args.log.now caller line c.args.said.now asked c.args.place.now c.go_to.new.place before stands
        c.requires.log c.requires.few loud c.counts_named.result c.counts_named.ensures after step shows in
        let same = same_Some c.in-Some.counts _ (sym c.in-Some.is ∙ counts.is) in
        true≢false (sym (is.1 (counts.replied ∙ ap (λ (n : Counts). reply_line (reply.Stat n.edition n.starts n.quits)) (sym same))))
