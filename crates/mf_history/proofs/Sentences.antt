-- Replies to requests for sentences.
use Rattle.std.proofs.Common.{◌≡◌, ◌≢◌, ◌∙◌, ℕ, ◌≤◌, false, List, [], ◌++◌, Ok, length, if◌then◌else◌, refl, ap, sym, subst, arith}
use Rattle.std.proofs.lemmas.Bool.{eq-eqb, ne_eqb}
use Rattle.mf_text.specs.declared.arguments.Argued.{Argued}
use Rattle.mf_answer.proofs.Once.{answer_once}
use Rattle.mf_answer.specs.Answers.{IsAnswer, IsAnswerIn}
use Rattle.mf_edition.specs.Edition.{edition_of, EditionState}
use Rattle.mf_edition.specs.declared.change.Entry.{Entry}
use Rattle.mf_transcript.proofs.Fronts.{in_edition-append, in_edition-with}
use Rattle.mf_transcript.specs.Asked.{request_of}
use Rattle.mf_transcript.specs.Lines.{ShowsAtMost}
use Rattle.mf_transcript.specs.Replies.{IsFormatReply, IsLineOf, answer_reply, shows_counts}
use Rattle.mf_transcript.specs.Served.{in_edition, served_by, served_for, with_edition}
use Rattle.mf_transcript.specs.Steps.{is_answered, gets, sees, Standing}
use Rattle.mf_wire.specs.Replies.{memory_line, reply_line}
use Rattle.mf_wire.specs.declared.reply.Reply.{Reply}
use Rattle.mf_wire.specs.declared.request.Request.TheVariants.{Format}
use Rattle.mf_history.specs.Numbers.{Names}
use Rattle.mf_history.specs.Places.{served_at, Goes, IsStuck, Moves, StandsAs}
use Rattle.mf_history.specs.Served.{IsServed}
use Rattle.mf_history.specs.declared.front.Front.{Front}
use Rattle.mf_history.specs.declared.place.Place.{Place}
use Rattle.mf_history.proofs.Cases.{answered}
use Rattle.mf_history.proofs.Lines.{answer_names}
use Rattle.mf_transcript.proofs.Shown.{others_show}
use Rattle.mf_history.proofs.Standing.{moved, stands_at}
use Rattle.mf_answer.specs.Answers as answers
use Rattle.mf_answer.specs.Answers.{Answer}

plain : (k : ℕ) (answer : Answer) → shows_counts (answer_reply k answer) ≡ false
plain k (answers.not_yet since) = refl
plain k answers.no_message = refl
plain k answers.too_long = refl
plain k (answers.formatted tag parts faults) = refl

module _ (most : ℕ) (log : List Entry) (caller : ℕ) (line said : List ℕ) (tag id : List ℕ) (arguments : List (List ℕ × Argued)) (since : ℕ)
    (asked : request_of line ≡ Ok (Format tag id arguments since)) (old : Place) (before : Standing) (stands : StandsAs log old before) where
  -- a reply that names no edition from here on isn't the answer
  pub sentence_stuck : said ≢ memory_line → ((k : ℕ) → old.front.edition.number ≤ k → k ≤ length log → Names k said → ⊥) → IsStuck most log caller line said before
  sentence_stuck loud none after step shows =
      answered log caller line said before ⊥ loud tag id arguments since asked
      (λ k is from within. none k (omega (arith, from, stands_at log old before stands)) within
      (subst (Names k) (sym (is.written ∙ ap reply_line is.due.is)) (answer_names k is.due.answer)))
      after step

  module _ (new : Place) (moves : Moves log old new) (k : ℕ) (there : new.front.edition.number ≡ k) where
    edition_is : new.front.edition ≡ edition_of log k
    edition_is = ap (λ (f : Front). f.edition) (moved log old before stands new moves k there).front

    answer_is : (reply : Reply) → IsFormatReply (IsAnswerIn new.front.edition.number new.front.edition tag id arguments since) new.front.edition.number reply
        → IsFormatReply (IsAnswer log k tag id arguments since) k reply
    answer_is reply is =
        subst (λ (e : EditionState). IsFormatReply (IsAnswerIn k e tag id arguments since) k reply) edition_is
        (subst (λ n. IsFormatReply (IsAnswerIn n new.front.edition tag id arguments since) n reply) there is)

    served_is : served_at new.front.edition tag id since ≡ served_by log k line
    served_is =
        ap (λ (e : EditionState). served_at e tag id since) edition_is
        ∙ ap (λ n. served_to_in n) number
        ∙ sym (ap (served_for log k) asked)
      where
        number : (edition_of log k).number ≡ k
        number = ap (λ (e : EditionState). e.number) (sym edition_is) ∙ there

        served_to_in : ℕ → List ℕ
        served_to_in n = served_at (record (edition_of log k) { number = n }) tag id since

    -- another line isn't the answer
    pub sentence_other : said ≢ memory_line → ((j : ℕ) → j ≤ length log → Names j said → new.front.edition.number ≡ j)
        → (reply : Reply) → IsFormatReply (IsAnswerIn new.front.edition.number new.front.edition tag id arguments since) new.front.edition.number reply
        → (said ≡ reply_line reply → ⊥) → IsStuck most log caller line said before
    sentence_other loud named reply due other after step shows =
        answered log caller line said before ⊥ loud tag id arguments since asked
        (λ j is from within.
        let names = subst (Names j) (sym (is.written ∙ ap reply_line is.due.is)) (answer_names j is.due.answer) in
        let same : j ≡ k = sym (named j within names) ∙ there in
        let here = subst (λ n. IsLineOf (IsFormatReply (IsAnswer log n tag id arguments since) n) said) same is in
        let mine = answer_is reply due in
        let one = answer_once log k tag id arguments since here.due.answer mine.answer here.due.answered mine.answered in
        other (here.written ∙ ap reply_line (here.due.is ∙ ap (answer_reply k) one ∙ sym mine.is)))
        after step

    pub sentence_goes : (last : Place) (reply : Reply) (indexes : List ℕ)
        → IsFormatReply (IsAnswerIn new.front.edition.number new.front.edition tag id arguments since) new.front.edition.number reply
        → said ≡ reply_line reply → indexes ≡ served_at new.front.edition tag id since
        → last.front ≡ new.front → last.made ≡ new.made
        → (IsServed new.served (in_edition k before.served) (length new.front.edition.items)
        → IsServed last.served (in_edition k before.served ++ indexes) (length new.front.edition.items))
        → Goes most log caller line said before last
    sentence_goes last reply indexes due written served front made serves = record {
      after = gets before k (served_by log k line);
      step = is_answered k (record { tag = tag; id = id; arguments = arguments; since = since; asked = asked; replied = record { reply = reply; due = mine; written = written } })
          (omega (arith, moves.later.from, there, stands_at log old before stands)) (omega (arith, moves.later.front.within, there));
      quits = subst (ShowsAtMost most) (sym (written ∙ ap reply_line mine.is)) (others_show (answer_reply k mine.answer) (plain k mine.answer) most);
      stands = record {
        within = place.within;
        front = front ∙ place.front;
        made = made ∙ place.made;
        few = place.few;
        served = subst (λ l. IsServed last.served l (length (edition_of log k).items)) (sym list)
            (subst (λ n. IsServed last.served (in_edition k before.served ++ indexes) n) items (serves (subst (λ n. IsServed new.served (in_edition k before.served) n) (sym items) place.served)));
        none = λ j more. in_edition-append j before.served (with_edition k (served_by log k line))
            ∙ ap (λ l. l ++ in_edition j (with_edition k (served_by log k line))) (place.none j more)
            ∙ in_edition-with j k (served_by log k line)
            ∙ ap (λ b. if b then served_by log k line else []) (ne_eqb k j (λ same. omega (arith, same, more)));
      };
    }
      where
        place : StandsAs log new (sees before k)
        place = moved log old before stands new moves k there

        mine : IsFormatReply (IsAnswer log k tag id arguments since) k reply
        mine = answer_is reply due

        items : length new.front.edition.items ≡ length (edition_of log k).items
        items = ap (λ (e : EditionState). length e.items) edition_is

        list : in_edition k (before.served ++ with_edition k (served_by log k line)) ≡ in_edition k before.served ++ indexes
        list =
            in_edition-append k before.served (with_edition k (served_by log k line))
            ∙ ap (λ l. in_edition k before.served ++ l)
            (in_edition-with k k (served_by log k line) ∙ ap (λ b. if b then served_by log k line else []) (eq-eqb k k refl) ∙ sym served_is ∙ sym served)
