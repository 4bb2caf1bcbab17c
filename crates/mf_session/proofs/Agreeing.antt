-- How far a desk has come, as its turns say it.
use Rattle.std.proofs.Common.{◌≡◌, ◌∙◌, ℕ, zero, suc, ◌+◌, ◌≤◌, Bool, true, false, ◌||◌, ◌==◌, List, [], ◌∷◌, ◌++◌, Ok, length, refl, ap, sym, subst, arith}
use Rattle.std.proofs.lemmas.Bool.{eq-eqb, eqb-true}
use Rattle.std.specs.List.{AllByRecursion}
use Rattle.std.specs.Prelude.{Contains}
use Rattle.mf_edition.proofs.EditionLaws.{newest}
use Rattle.mf_edition.specs.Edition.{edition_of, newest_edition, EditionState}
use Rattle.mf_edition.specs.Sizes.{refusal_of}
use Rattle.mf_hub.specs.Desks.{is_among, message_count, stat_of, Forgoes, Gains}
use Rattle.mf_legal.specs.Calls.{one_if}
use Rattle.mf_session.specs.Turns.{no_memory, stands_apart, is_accepted, is_refused, is_answered, is_counted, stat_reply, Turn}
use Rattle.mf_transcript.specs.Asked.{request_of}
use Rattle.mf_transcript.specs.Lines.{asks_format}
use Rattle.mf_transcript.specs.Served.{count_among, served_by}
use Rattle.mf_transcript.specs.Sole.{count_of, misses, opened, published, serves, CountsOf, Desk, Move, Progress}
use Rattle.mf_transcript.specs.Sole as sole
use Rattle.mf_transcript.specs.Steps.{next_entry, Accepts, Answers, Refuses}
use Rattle.mf_wire.specs.Replies.{reply_line}
use Rattle.mf_wire.specs.declared.reply.Reply.TheVariants as reply
use Rattle.mf_wire.specs.declared.request.Request.TheVariants.{Stat}

-- ---- messages among others

true_or : (a b : Bool) → a ≡ true → (a || b) ≡ true
true_or true b is = refl
true_or false b is = cc

or_true : (a b : Bool) → b ≡ true → (a || b) ≡ true
or_true true b is = refl
or_true false b is = is

-- one of two holds
by_or : {C : Type 0} (a b : Bool) → (a ≡ true → C) → (b ≡ true → C) → (a || b) ≡ true → C
by_or true b left right is = left refl
by_or false b left right is = right is

among_left : (some more : List ℕ) (i : ℕ) → is_among some i ≡ true → is_among (some ++ more) i ≡ true
among_left [] more i is = absurd (false_true is)
  where
    false_true : false ≡ true → ⊥
    false_true is = cc
among_left (index ∷ some) more i is =
    by_or (index == i) (is_among some i)
    (true_or (index == i) (is_among (some ++ more) i))
    (λ further. or_true (index == i) (is_among (some ++ more) i) (among_left some more i further))
    is

among_right : (some more : List ℕ) (i : ℕ) → is_among more i ≡ true → is_among (some ++ more) i ≡ true
among_right [] more i is = is
among_right (index ∷ some) more i is = or_true (index == i) (is_among (some ++ more) i) (among_right some more i is)

among_both : {C : Type 0} (some more : List ℕ) (i : ℕ) → (is_among some i ≡ true → C) → (is_among more i ≡ true → C) → is_among (some ++ more) i ≡ true → C
among_both [] more i left right is = right is
among_both (index ∷ some) more i left right is =
    by_or (index == i) (is_among (some ++ more) i)
    (λ here. left (true_or (index == i) (is_among some i) here))
    (among_both some more i (λ further. left (or_true (index == i) (is_among some i) further)) right)
    is

no_more : (some : List ℕ) (i : ℕ) → is_among some i ≡ true → is_among (some ++ []) i ≡ true
no_more some i is = among_left some [] i is

more_if : (a b : Bool) → (a ≡ true → b ≡ true) → one_if a ≤ one_if b
more_if true true implies = omega arith
more_if true false implies = absurd (false_true (implies refl))
  where
    false_true : false ≡ true → ⊥
    false_true is = cc
more_if false b implies = omega arith

-- more messages count for no less
count_more : (some more : List ℕ) (n : ℕ) → ((i : ℕ) → is_among some i ≡ true → is_among more i ≡ true) → count_among some n ≤ count_among more n
count_more some more zero within = omega arith
count_more some more (suc n) within =
    omega (arith, count_more some more n within, more_if (is_among some n) (is_among more n) (within n))

contains : (indexes : List ℕ) (i : ℕ) → is_among indexes i ≡ true → Contains indexes i
contains [] i is = absurd (false_true is)
  where
    false_true : false ≡ true → ⊥
    false_true is = cc
contains (index ∷ indexes) i is =
    by_or (index == i) (is_among indexes i)
    (λ here. (0, omega arith, eqb-true index i here))
    (λ further. let at = contains indexes i further in (suc at.0, omega (arith, at.1), at.2))
    is

pub all_contained : (indexes ready : List ℕ) → ((i : ℕ) → is_among indexes i ≡ true → is_among ready i ≡ true) → AllByRecursion (Contains ready) indexes
all_contained [] ready within = tt
all_contained (index ∷ indexes) ready within = (
  contains ready index (within index (true_or (index == index) (is_among indexes index) (eq-eqb index index refl))),
  all_contained indexes ready (λ i is. within i (or_true (index == i) (is_among indexes i) is)),
)

-- ---- how far a desk has come

-- the desk is one that has come so far
pub record Agrees (progress : Progress) (desk : Desk) : Type 0 where
  pub log : desk.log ≡ progress.log
  pub served : (i : ℕ) → is_among progress.served i ≡ true → is_among desk.ready i ≡ true
  pub ready : (i : ℕ) → is_among desk.ready i ≡ true → is_among (progress.served ++ progress.missed) i ≡ true
  pub least : progress.quits ≤ desk.quits
  pub most : desk.quits ≤ progress.quits + progress.forgone

pub agrees_opened : (desk : Desk) → Agrees (opened desk) desk
agrees_opened desk = record {
  log = refl;
  served = λ i is. is;
  ready = no_more desk.ready;
  least = omega arith;
  most = omega arith;
}

module _ (line said : List ℕ) (progress : Progress) (before after : Desk) (agrees : Agrees progress before) where
  -- the messages that the line is answered from
  served_is : served_by before.log (length before.log) line ≡ served_by progress.log (length progress.log) line
  served_is = ap (λ log. served_by log (length log) line) agrees.log

  missed : Forgoes before (served_by before.log (length before.log) line) after
      → (asks_format (request_of line) ≡ false → after.quits ≡ before.quits) → Agrees (misses progress line) after
  missed forgoes kept = record {
    log = forgoes.log ∙ agrees.log;
    served = λ i is. forgoes.kept i (agrees.served i is);
    ready = λ i is. by_or (is_among before.ready i) (is_among (served_by before.log (length before.log) line) i)
        (λ ready. among_both progress.served progress.missed i
        (among_left progress.served (progress.missed ++ served_by progress.log (length progress.log) line) i)
        (λ missed. among_right progress.served (progress.missed ++ served_by progress.log (length progress.log) line) i
        (among_left progress.missed (served_by progress.log (length progress.log) line) i missed))
        (agrees.ready i ready))
        (λ new. among_right progress.served (progress.missed ++ served_by progress.log (length progress.log) line) i
        (among_right progress.missed (served_by progress.log (length progress.log) line) i (subst (λ served. is_among served i ≡ true) served_is new)))
        (forgoes.new i is);
    least = omega (arith, forgoes.least, agrees.least);
    most = by (asks_format (request_of line)) refl;
  }
    where
      by : (asks : Bool) → asks_format (request_of line) ≡ asks → after.quits ≤ progress.quits + (progress.forgone + one_if asks)
      by true is = omega (arith, forgoes.most, agrees.most)
      by false is = omega (arith, kept is, agrees.most)

  answered : Gains before (served_by before.log (length before.log) line) after
      → Agrees (serves progress (served_by progress.log (length progress.log) line)) after
  answered gains = record {
    log = gains.log ∙ agrees.log;
    served = λ i is. gains.ready i ∙ among_both progress.served (served_by progress.log (length progress.log) line) i
        (λ old. true_or (is_among before.ready i) (is_among (served_by before.log (length before.log) line) i) (agrees.served i old))
        (λ new. or_true (is_among before.ready i) (is_among (served_by before.log (length before.log) line) i)
        (subst (λ served. is_among served i ≡ true) (sym served_is) new))
        is;
    ready = λ i is. by_or (is_among before.ready i) (is_among (served_by before.log (length before.log) line) i)
        (λ ready. among_both progress.served progress.missed i
        (λ old. among_left (progress.served ++ served_by progress.log (length progress.log) line) progress.missed i
        (among_left progress.served (served_by progress.log (length progress.log) line) i old))
        (among_right (progress.served ++ served_by progress.log (length progress.log) line) progress.missed i)
        (agrees.ready i ready))
        (λ new. among_left (progress.served ++ served_by progress.log (length progress.log) line) progress.missed i
        (among_right progress.served (served_by progress.log (length progress.log) line) i (subst (λ served. is_among served i ≡ true) served_is new)))
        (sym (gains.ready i) ∙ is);
    least = omega (arith, gains.quits, agrees.least);
    most = omega (arith, gains.quits, agrees.most);
  }

  counted : request_of line ≡ Ok Stat → said ≡ reply_line (stat_reply (stat_of before)) → CountsOf progress line said
  counted asked replied =
      let items : length (newest_edition before.log).items ≡ length (edition_of progress.log (length progress.log)).items =
      ap (λ log. length (newest_edition log).items) agrees.log ∙ ap (λ (edition : EditionState). length edition.items) (sym (newest progress.log)) in
      record {
        starts = before.quits + count_among before.ready (message_count before);
        quits = before.quits;
        asked = asked;
        replied = replied ∙ ap (λ log. reply_line (reply.Stat (length log) (before.quits + count_among before.ready (message_count before)) before.quits)) agrees.log;
        least =
            let more = count_more progress.served before.ready (message_count before) agrees.served in
            let same : count_among progress.served (message_count before) ≡ count_of progress progress.served = ap (count_among progress.served) items in
            omega (arith, more, same);
        most =
            let more = count_more before.ready (progress.served ++ progress.missed) (message_count before) agrees.ready in
            let same : count_among (progress.served ++ progress.missed) (message_count before) ≡ count_of progress (progress.served ++ progress.missed) =
            ap (count_among (progress.served ++ progress.missed)) items in
            omega (arith, more, same);
        least_quits = agrees.least;
        most_quits = agrees.most;
      }

  same : after ≡ before → Agrees progress after
  same is = subst (Agrees progress) (sym is) agrees

  -- a turn of the desk is a move
  pub moves : Turn line said before after → (next : Progress) × Move line said progress next × Agrees next after
  moves (no_memory is forgoes kept) = (misses progress line, sole.no_memory is, missed forgoes kept)
  moves (stands_apart apart is) = (progress, sole.stands_apart apart, same is)
  moves (is_accepted change accepts none is) = (
    published progress change,
    sole.is_accepted change (subst (λ log. Accepts line change (length log + 1) said) agrees.log accepts) (ap (λ log. refusal_of log change) (sym agrees.log) ∙ none),
    subst (Agrees (published progress change)) (sym is) (record {
      log = ap (λ log. log ++ next_entry 0 (length log) change ∷ []) agrees.log;
      served = λ i is. absurd (false_true is);
      ready = λ i is. absurd (false_true is);
      least = omega arith;
      most = omega arith;
    }),
  )
    where
      false_true : false ≡ true → ⊥
      false_true is = cc
  moves (is_refused refuses is) = (progress, sole.is_refused (subst (λ log. Refuses log (length log) line said) agrees.log refuses), same is)
  moves (is_answered answers gains) = (
    serves progress (served_by progress.log (length progress.log) line),
    sole.is_answered (subst (λ log. Answers log (length log) line said) agrees.log answers),
    answered gains,
  )
  moves (is_counted asked replied is) = (progress, sole.is_counted (counted asked replied), same is)
