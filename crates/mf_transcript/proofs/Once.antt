-- Without memory lines a desk has one outcome.
use Rattle.std.proofs.Common.{◌≡◌, ◌≢◌, ◌∙◌, ℕ, ◌+◌, List, [], ◌∷◌, ◌++◌, length, take, Option, Some, None, Result, Ok, Err, refl, ap, ap₂, sym, subst, arith}
use Rattle.std.proofs.lemmas.List.{append-nil, take_all}
use Rattle.mf_answer.proofs.Once.{answer_once}
use Rattle.mf_answer.specs.Answers.{IsAnswer}
use Rattle.mf_edition.specs.Sizes.{refusal_of}
use Rattle.mf_edition.specs.declared.change.Change.{Change}
use Rattle.mf_edition.specs.declared.change.Entry.{Entry}
use Rattle.mf_edition.specs.declared.error.Refusal.{Refusal}
use Rattle.mf_lint.proofs.Lints.{lints_once}
use Rattle.mf_wire.specs.Replies.{memory_line, op_of, reply_line}
use Rattle.mf_wire.specs.declared.reply.Reply.{Reply}
use Rattle.mf_wire.specs.declared.reply.Reply.TheVariants as reply
use Rattle.mf_wire.specs.declared.request.Request.{Request}
use Rattle.mf_wire.specs.declared.request.Request.TheVariants.{Format, Lint, Publish, Stat}
use Rattle.mf_transcript.specs.Asked.{request_of}
use Rattle.mf_transcript.specs.Laws.{HasNoMemoryLine, SolesHaveOneOutcome}
use Rattle.mf_transcript.specs.Replies.{answer_reply, lint_reply, refusal_reply, IsFormatReply, IsLineOf}
use Rattle.mf_transcript.specs.Sole.{no_memory, stands_apart, is_accepted, is_refused, is_answered, is_counted, count_of, opened, published, CountsOf, Move, Moves, Progress}
use Rattle.mf_transcript.specs.Steps.{Accepts, Answers, ApartFor, Refuses}
use Rattle.mf_transcript.proofs.Fixed.{accepted_kind, answered_kind, apart_kind, kind, refused_kind, same_change, same_refusal}

-- what is apart from the log has one reply
apart_once : (asked : Result Request Reply) (one other : List ℕ) → ApartFor asked one → ApartFor asked other → one ≡ other
apart_once (Ok (Publish change)) one other is is_too = absurd is
apart_once (Ok (Format tag id arguments since)) one other is is_too = absurd is
apart_once (Ok Stat) one other is is_too = absurd is
apart_once (Ok (Lint source)) one other is is_too =
    is.written ∙ ap reply_line (is.due.is ∙ ap lint_reply (lints_once source is.due.linted is_too.due.linted is.due.lints is_too.due.lints) ∙ sym is_too.due.is)
    ∙ sym is_too.written
apart_once (Err refusal) one other is is_too = is ∙ sym is_too

-- and so have a refusal and a sentence at an edition
refused_one : (log : List Entry) (k : ℕ) (line one other : List ℕ) → Refuses log k line one → Refuses log k line other → one ≡ other
refused_one log k line one other is is_too =
    is.replied
    ∙ ap (λ r. reply_line (refusal_reply r))
    (same_refusal is.refusal is_too.refusal (refusal_of (take k log) is.change) is.due
    (ap (refusal_of (take k log)) (same_change (request_of line) is.change is_too.change is.asked is_too.asked) ∙ is_too.due))
    ∙ sym is_too.replied

-- the answer to what is asked for, if it is a sentence
abbrev AnswersFor : List Entry → ℕ → Result Request Reply → List ℕ → Type 0
AnswersFor log k (Ok (Publish change)) said = ⊥
AnswersFor log k (Ok (Format tag id arguments since)) said = IsLineOf (IsFormatReply (IsAnswer log k tag id arguments since) k) said
AnswersFor log k (Ok (Lint source)) said = ⊥
AnswersFor log k (Ok Stat) said = ⊥
AnswersFor log k (Err refusal) said = ⊥

answers_for : (log : List Entry) (k : ℕ) (line said : List ℕ) → Answers log k line said → AnswersFor log k (request_of line) said
answers_for log k line said is = subst (λ asked. AnswersFor log k asked said) (sym is.asked) is.replied

answered_for : (log : List Entry) (k : ℕ) (asked : Result Request Reply) (one other : List ℕ) → AnswersFor log k asked one → AnswersFor log k asked other → one ≡ other
answered_for log k (Ok (Publish change)) one other is is_too = absurd is
answered_for log k (Ok (Format tag id arguments since)) one other is is_too =
    is.written
    ∙ ap reply_line (is.due.is
    ∙ ap (answer_reply k) (answer_once log k tag id arguments since is.due.answer is_too.due.answer is.due.answered is_too.due.answered)
    ∙ sym is_too.due.is)
    ∙ sym is_too.written
answered_for log k (Ok (Lint source)) one other is is_too = absurd is
answered_for log k (Ok Stat) one other is is_too = absurd is
answered_for log k (Err refusal) one other is is_too = absurd is

answered_one : (log : List Entry) (k : ℕ) (line one other : List ℕ) → Answers log k line one → Answers log k line other → one ≡ other
answered_one log k line one other is is_too = answered_for log k (request_of line) one other (answers_for log k line one is) (answers_for log k line other is_too)

-- no line of the newest edition found no memory
pub record NothingMissed (before : Progress) : Type 0 where
  pub missed : before.missed ≡ []
  pub forgone : before.forgone ≡ 0

-- then the counts are exact
counted_one : (before : Progress) (line one other : List ℕ) → NothingMissed before → CountsOf before line one → CountsOf before line other → one ≡ other
counted_one before line one other none is is_too =
    is.replied ∙ ap₂ (λ starts quits. reply_line (reply.Stat (length before.log) starts quits)) same_starts same_quits ∙ sym is_too.replied
  where
    same_quits : is.quits ≡ is_too.quits
    same_quits = omega (arith, is.least_quits, is.most_quits, is_too.least_quits, is_too.most_quits, none.forgone)

    all : count_of before (before.served ++ before.missed) ≡ count_of before before.served
    all = ap (λ l. count_of before (before.served ++ l)) none.missed ∙ ap (count_of before) (append-nil before.served)

    same_starts : is.starts ≡ is_too.starts
    same_starts = omega (arith, is.least, is.most, is_too.least, is_too.most, same_quits, all)

-- one reply, one log, and again nothing missed
pub record HasOne (said other : List ℕ) (after another : Progress) : Type 0 where
  pub reply : said ≡ other
  pub came : after ≡ another
  pub none : NothingMissed after

no_refusal : (found : Option Refusal) (refusal : Refusal) → found ≡ None → found ≡ Some refusal → ⊥
no_refusal found refusal none some = cc

module _ (line said other : List ℕ) (before : Progress) (none : NothingMissed before) (answers : said ≢ memory_line) (answers_too : other ≢ memory_line) where
  stays : said ≡ other → HasOne said other before before
  stays same = record { reply = same; came = refl; none = none }

  counted_kind : (reply : List ℕ) → CountsOf before line reply → kind (request_of line) ≡ 2
  counted_kind reply is = ap kind is.asked

  one_move : (after another : Progress) → Move line said before after → Move line other before another → HasOne said other after another
  one_move after another (no_memory is) move = absurd (answers is)
  one_move after another move (no_memory is) = absurd (answers_too is)
  one_move after another (stands_apart is) (stands_apart is_too) = stays (apart_once (request_of line) said other is is_too)
  one_move after another (is_accepted change is room) (is_accepted also is_too more) =
      let same = same_change (request_of line) change also is.asked is_too.asked in record {
        reply = is.replied ∙ ap (λ c. reply_line (reply.Accepted (length before.log + 1) (op_of c))) same ∙ sym is_too.replied;
        came = ap (published before) same;
        none = record { missed = refl; forgone = refl };
      }
  one_move after another (is_accepted change is room) (is_refused is_too) = absurd (taken change is room is_too)
    where
      taken : (change : Change) → Accepts line change (length before.log + 1) said → refusal_of before.log change ≡ None → Refuses before.log (length before.log) line other → ⊥
      taken change is room is_too =
          no_refusal (refusal_of before.log change) is_too.refusal room
          (ap (refusal_of before.log) (same_change (request_of line) change is_too.change is.asked is_too.asked)
          ∙ ap (λ l. refusal_of l is_too.change) (sym (take_all (length before.log) before.log (omega arith))) ∙ is_too.due)
  one_move after another (is_refused is) (is_accepted change is_too room) = absurd (taken change is_too room is)
    where
      taken : (change : Change) → Accepts line change (length before.log + 1) other → refusal_of before.log change ≡ None → Refuses before.log (length before.log) line said → ⊥
      taken change is room is_too =
          no_refusal (refusal_of before.log change) is_too.refusal room
          (ap (refusal_of before.log) (same_change (request_of line) change is_too.change is.asked is_too.asked)
          ∙ ap (λ l. refusal_of l is_too.change) (sym (take_all (length before.log) before.log (omega arith))) ∙ is_too.due)
  one_move after another (is_refused is) (is_refused is_too) = stays (refused_one before.log (length before.log) line said other is is_too)
  one_move after another (is_answered is) (is_answered is_too) = record {
    reply = answered_one before.log (length before.log) line said other is is_too;
    came = refl;
    none = record { missed = none.missed; forgone = none.forgone };
  }
  one_move after another (is_counted is) (is_counted is_too) = stays (counted_one before line said other none is is_too)
  one_move after another (stands_apart is) (is_accepted also is_too more) = absurd (omega (arith, apart_kind (request_of line) said is, accepted_kind line also (length before.log + 1) other is_too))
  one_move after another (stands_apart is) (is_refused is_too) = absurd (omega (arith, apart_kind (request_of line) said is, refused_kind before.log (length before.log) line other is_too))
  one_move after another (stands_apart is) (is_answered is_too) = absurd (omega (arith, apart_kind (request_of line) said is, answered_kind before.log (length before.log) line other is_too))
  one_move after another (stands_apart is) (is_counted is_too) = absurd (omega (arith, apart_kind (request_of line) said is, counted_kind other is_too))
  one_move after another (is_accepted change is room) (stands_apart is_too) = absurd (omega (arith, accepted_kind line change (length before.log + 1) said is, apart_kind (request_of line) other is_too))
  one_move after another (is_accepted change is room) (is_answered is_too) = absurd (omega (arith, accepted_kind line change (length before.log + 1) said is, answered_kind before.log (length before.log) line other is_too))
  one_move after another (is_accepted change is room) (is_counted is_too) = absurd (omega (arith, accepted_kind line change (length before.log + 1) said is, counted_kind other is_too))
  one_move after another (is_refused is) (stands_apart is_too) = absurd (omega (arith, refused_kind before.log (length before.log) line said is, apart_kind (request_of line) other is_too))
  one_move after another (is_refused is) (is_answered is_too) = absurd (omega (arith, refused_kind before.log (length before.log) line said is, answered_kind before.log (length before.log) line other is_too))
  one_move after another (is_refused is) (is_counted is_too) = absurd (omega (arith, refused_kind before.log (length before.log) line said is, counted_kind other is_too))
  one_move after another (is_answered is) (stands_apart is_too) = absurd (omega (arith, answered_kind before.log (length before.log) line said is, apart_kind (request_of line) other is_too))
  one_move after another (is_answered is) (is_accepted also is_too more) = absurd (omega (arith, answered_kind before.log (length before.log) line said is, accepted_kind line also (length before.log + 1) other is_too))
  one_move after another (is_answered is) (is_refused is_too) = absurd (omega (arith, answered_kind before.log (length before.log) line said is, refused_kind before.log (length before.log) line other is_too))
  one_move after another (is_answered is) (is_counted is_too) = absurd (omega (arith, answered_kind before.log (length before.log) line said is, counted_kind other is_too))
  one_move after another (is_counted is) (stands_apart is_too) = absurd (omega (arith, counted_kind said is, apart_kind (request_of line) other is_too))
  one_move after another (is_counted is) (is_accepted also is_too more) = absurd (omega (arith, counted_kind said is, accepted_kind line also (length before.log + 1) other is_too))
  one_move after another (is_counted is) (is_refused is_too) = absurd (omega (arith, counted_kind said is, refused_kind before.log (length before.log) line other is_too))
  one_move after another (is_counted is) (is_answered is_too) = absurd (omega (arith, counted_kind said is, answered_kind before.log (length before.log) line other is_too))

one_outcome : (lines replies others : List (List ℕ)) (before end another : Progress) → NothingMissed before → HasNoMemoryLine replies → HasNoMemoryLine others
    → Moves lines replies before end → Moves lines others before another → (replies ≡ others) × (end ≡ another)
one_outcome [] [] [] before end another none answers answers_too moves also = (refl, moves ∙ sym also)
one_outcome [] [] (other ∷ others) before end another none answers answers_too moves also = absurd also
one_outcome [] (said ∷ replies) others before end another none answers answers_too moves also = absurd moves
one_outcome (line ∷ lines) [] others before end another none answers answers_too moves also = absurd moves
one_outcome (line ∷ lines) (said ∷ replies) [] before end another none answers answers_too moves also = absurd also
one_outcome (line ∷ lines) (said ∷ replies) (other ∷ others) before end another none answers answers_too moves also =
    let one = one_move line said other before none answers.0 answers_too.0 moves.0 also.0 moves.1 also.1 in
    let rest = one_outcome lines replies others moves.0 end another one.none answers.1 answers_too.1 moves.2
    (subst (λ p. Moves lines others p another) (sym one.came) also.2) in
    (ap₂ (λ l ls. l ∷ ls) one.reply rest.0, rest.1)

pub soles_once : SolesHaveOneOutcome
soles_once desk one other lines replies others answers answers_too run also =
    let same = one_outcome lines replies others (opened desk) run.end also.end (record { missed = refl; forgone = refl }) answers answers_too run.moves also.moves in
    (same.0, run.log ∙ ap (λ (p : Progress). p.log) same.1 ∙ sym also.log)
