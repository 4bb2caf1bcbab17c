-- The answers of an edition, and those of the log that it is the newest of.
use Rattle.std.proofs.Common.{◌≡◌, ◌∙◌, ◌<◌, ◌≤◌, ◌^◌, ℕ, Bool, true, false, List, [], Option, Some, None, length, refl, ap, sym, subst, arith, IsTrue, if◌then◌else◌}
use Rattle.std.proofs.lemmas.Bool.Decides.{nat_tests}
use Rattle.std.specs.Bool.{MatchBool}
use Rattle.std.specs.Prelude.{nat_lt, slice_get, encode_utf8_all}
use Rattle.mf_text.specs.declared.arguments.Argued.{Argued}
use Rattle.mf_locale.specs.Chain.{chain_of}
use Rattle.mf_parts.specs.Joined.{text_of}
use Rattle.mf_plan.specs.Plans.{compilation, CompilesTo}
use Rattle.mf_plan.specs.declared.plan.Plan.{Plan}
use Rattle.mf_edition.proofs.EditionLaws.{newest, newest_number}
use Rattle.mf_edition.specs.Edition.{edition_of, found_along, newest_edition, EditionState}
use Rattle.mf_edition.specs.Items.{Item}
use Rattle.mf_edition.specs.declared.change.Entry.{Entry}
use Rattle.mf_edition.specs.declared.item.Found.{Found}
use Rattle.mf_answer.specs.Answers.{formatted, is_text_size, no_message, not_yet, shown_answer, too_long, Answer, IsAnswer, IsAnswerFrom, IsAnswerIn, IsAnswerOf}
use Rattle.mf_answer.specs.Messages.{Shown}
use Rattle.mf_render.specs.Rendering.{IsTooLong, Renders}
use Rattle.mf_wire.specs.declared.reply.Reply.{Reply}
use Rattle.mf_wire.specs.declared.reply.Reply.TheVariants.{Formatted, NoMessage, NotYet, TooLong}
use Rattle.mf_transcript.specs.Replies.{answer_reply, IsFormatReply}
use Rattle.mf_transcript.specs.Served.{index_of, served_to}

-- what the newest edition of a log answers is the answer of the log at its length
pub newest_reply : (log : List Entry) (edition : EditionState) (tag id : List ℕ) (arguments : List (List ℕ × Argued)) (since : ℕ) (reply : Reply) → edition ≡ newest_edition log
    → IsFormatReply (IsAnswerIn edition.number edition tag id arguments since) edition.number reply
    → IsFormatReply (IsAnswer log (length log) tag id arguments since) (length log) reply
newest_reply log edition tag id arguments since reply is answered =
    subst (λ k. IsFormatReply (IsAnswerIn k (edition_of log (length log)) tag id arguments since) k reply)
    (ap (λ (edition : EditionState). edition.number) (newest log) ∙ newest_number log)
    (subst (λ (edition : EditionState). IsFormatReply (IsAnswerIn edition.number edition tag id arguments since) edition.number reply) (is ∙ sym (newest log)) answered)

-- the answer of a message that was found
module _ (arguments : List (List ℕ × Argued)) (edition : EditionState) (found : Found) (item : Item) (plan : Plan) (shown : Shown)
    (there : slice_get edition.items found.index ≡ Some item) (compiles : CompilesTo item.source plan) (renders : Renders edition found.tag arguments plan shown) where
  shown_reply : (size : Bool) → is_text_size shown.parts ≡ size → (reply : Reply)
      → answer_reply edition.number (if size then formatted found.tag shown.parts shown.faults else too_long) ≡ reply
      → IsFormatReply (IsAnswerOf arguments edition found) edition.number reply
  shown_reply size is reply gives = record {
    answer = shown_answer found.tag shown;
    answered = record {
      item = item;
      there = there;
      shown = shown;
      shows = record { compilation = compilation plan; compiled = compiles; shows = renders };
      is = refl;
    };
    is = sym gives ∙ ap (λ (b : Bool). answer_reply edition.number (if b then formatted found.tag shown.parts shown.faults else too_long)) (sym is);
  }

  pub formatted_reply : IsTrue (is_text_size shown.parts)
      → IsFormatReply (IsAnswerOf arguments edition found) edition.number (Formatted edition.number found.tag shown.parts shown.faults)
  formatted_reply fits = shown_reply true fits _ refl

  pub long_reply : 2 ^ 24 < length (encode_utf8_all (text_of shown.parts))
      → IsFormatReply (IsAnswerOf arguments edition found) edition.number (TooLong edition.number)
  long_reply many =
      let long : is_text_size shown.parts ≡ false = grind (arith, nat_tests, many) in
      shown_reply false long _ refl

pub too_long_reply : (arguments : List (List ℕ × Argued)) (edition : EditionState) (found : Found) (item : Item) (plan : Plan) (bytes : ℕ)
    → slice_get edition.items found.index ≡ Some item → CompilesTo item.source plan → IsTooLong edition found.tag arguments plan bytes
    → IsFormatReply (IsAnswerOf arguments edition found) edition.number (TooLong edition.number)
too_long_reply arguments edition found item plan bytes there compiles long =
    long_reply arguments edition found item plan long.shown there compiles long.renders long.many

-- the answer of an edition that is too old
pub old_reply : (k : ℕ) (edition : EditionState) (tag id : List ℕ) (arguments : List (List ℕ × Argued)) (since : ℕ) → k < since
    → IsFormatReply (IsAnswerIn k edition tag id arguments since) k (NotYet k since)
old_reply k edition tag id arguments since old =
    let early : nat_lt k since ≡ true = grind (arith, nat_tests, old) in
    record {
      answer = not_yet since;
      answered = subst (λ b. MatchBool b (not_yet since ≡ not_yet since) (IsAnswerFrom arguments edition (found_along edition.items id (chain_of tag)) (not_yet since))) (sym early) refl;
      is = refl;
    }

-- With a message that an edition has, or hasn't, under a tag of the chain.
module _ (edition : EditionState) (tag id : List ℕ) (arguments : List (List ℕ × Argued)) (since : ℕ) (k : ℕ) (late : since ≤ k) where
  not_early : nat_lt k since ≡ false
  not_early = grind (arith, nat_tests, late)

  answer_from : (found : Option Found) → found_along edition.items id (chain_of tag) ≡ found → (answer : Answer)
      → IsAnswerFrom arguments edition found answer → IsAnswerIn k edition tag id arguments since answer
  answer_from found is answer from =
      subst (λ b. MatchBool b (answer ≡ not_yet since) (IsAnswerFrom arguments edition (found_along edition.items id (chain_of tag)) answer)) (sym not_early)
      (subst (λ found. IsAnswerFrom arguments edition found answer) (sym is) from)

  pub found_reply : (found : Found) (reply : Reply) → found_along edition.items id (chain_of tag) ≡ Some found
      → IsFormatReply (IsAnswerOf arguments edition found) k reply → IsFormatReply (IsAnswerIn k edition tag id arguments since) k reply
  found_reply found reply is answered = record {
    answer = answered.answer;
    answered = answer_from (Some found) is answered.answer answered.answered;
    is = answered.is;
  }

  pub none_reply : found_along edition.items id (chain_of tag) ≡ None → IsFormatReply (IsAnswerIn k edition tag id arguments since) k (NoMessage k)
  none_reply is = record { answer = no_message; answered = answer_from None is no_message refl; is = refl }

-- the messages that a request is answered from
module _ (log : List Entry) (tag id : List ℕ) (since : ℕ) where
  pub served_early : length log < since → served_to log (length log) tag id since ≡ []
  served_early early =
      let is : nat_lt (length log) since ≡ true = grind (arith, nat_tests, early) in
      ap (λ (b : Bool). if b then [] else index_of (found_along (edition_of log (length log)).items id (chain_of tag))) is

  pub served_found : since ≤ length log → (found : Option Found) → found_along (newest_edition log).items id (chain_of tag) ≡ found
      → served_to log (length log) tag id since ≡ index_of found
  served_found late found is =
      let not_early : nat_lt (length log) since ≡ false = grind (arith, nat_tests, late) in
      ap (λ (b : Bool). if b then [] else index_of (found_along (edition_of log (length log)).items id (chain_of tag))) not_early
      ∙ ap (λ (edition : EditionState). index_of (found_along edition.items id (chain_of tag))) (newest log)
      ∙ ap index_of is
