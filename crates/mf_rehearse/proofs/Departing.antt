-- Callers that have left, one after the other, and what is written of them.
use Rattle.std.proofs.Common.{◌≡◌, ◌∙◌, ℕ, suc, ◌+◌, ◌==◌, Bool, true, false, List, [], ◌∷◌, ◌++◌, length, map, Option, Result, Ok, Err, IfOk, Vec, Global, refl, ap, sym, subst, arith, if◌then◌else◌}
use Rattle.std.specs.List.{flat_map, AllByRecursion}
use Rattle.atomic_table.specs.Seated.{TableId}
use Rattle.mf_edition.specs.declared.change.Entry.{Entry}
use Rattle.mf_hub.specs.Passes.{Grows, Inherits, Known}
use Rattle.mf_lines.specs.Cut.{IsOneLine}
use Rattle.mf_lines.specs.Served.{written}
use Rattle.mf_transcript.specs.Asked.{request_of}
use Rattle.mf_transcript.specs.Replies.{refusal_reply}
use Rattle.mf_transcript.specs.Steps as steps
use Rattle.mf_transcript.specs.Steps.{ApartFor, Standing, Step}
use Rattle.mf_transcript.specs.Transcripts.{stands_at, Steps}
use Rattle.mf_turn.proofs.Lists.{starts_through}
use Rattle.mf_turn.specs.Acts.{left_behind}
use Rattle.mf_turn.specs.Sums.{StartsWith}
use Rattle.mf_turn.specs.declared.view.Ended.{Ended}
use Rattle.mf_wire.specs.Lines.{lines_of}
use Rattle.mf_wire.specs.Replies.{op_of, reply_line}
use Rattle.mf_wire.specs.declared.reply.Reply.{Reply}
use Rattle.mf_wire.specs.declared.reply.Reply.TheVariants as reply
use Rattle.mf_wire.specs.declared.request.Request.{Request}
use Rattle.mf_wire.specs.declared.request.Request.TheVariants.{Format, Lint, Publish, Stat}
use Rattle.mf_rehearse.specs.Leaving.{AreLines, ClosesLater, HaveLeft, Left, Matches}
use Rattle.mf_rehearse.specs.Played.{ended_of, replies_of, Part, PlaysInto}
use Rattle.mf_rehearse.specs.Playing.{HasPlayed}
use Rattle.mf_rehearse.specs.Prints.{print, replies_print, tagged}
use Rattle.mf_rehearse.specs.Rehearsals.{IsRehearsal}
use Rattle.mf_rehearse.specs.Scripts.{callers_in, requests_of}
use Rattle.mf_rehearse.specs.declared.leaving.Kept.{Kept}
use Rattle.mf_rehearse.specs.declared.playing.Played.{Played}
use Rattle.mf_rehearse.proofs.Feeds.{memory_clean, reply_clean}
use Rattle.mf_rehearse.proofs.Sent.{lines_again}
use Rattle.mf_rehearse.proofs.Together.{one_history}

-- ---- whoever the callers left into sees more

further : (lines : List (List ℕ)) (p q : Known) → Grows p q → (part : Part) → PlaysInto lines p.log p.heard part → PlaysInto lines q.log q.heard part
further lines p q grows part is = record {
  plays = is.plays;
  seen = starts_through q.log p.log part.log (grows.log.more, grows.log.grown) is.seen;
  told = (let a = is.told in let b = grows.heard in omega arith);
}

all_further : (lines : List (List ℕ)) (p q : Known) → Grows p q → (parts : List Part) → AllByRecursion (PlaysInto lines p.log p.heard) parts
    → AllByRecursion (PlaysInto lines q.log q.heard) parts
all_further lines p q grows [] all = tt
all_further lines p q grows (part ∷ parts) all = (further lines p q grows part all.0, all_further lines p q grows parts all.1)

-- ---- one more leaves

one_more : (P : Part → Type 0) (parts : List Part) (part : Part) → AllByRecursion P parts → P part → AllByRecursion P (parts ++ part ∷ [])
one_more P [] part all is = (is, tt)
one_more P (first ∷ parts) part all is = (all.0, one_more P parts part all.1 is)

ended_more : (parts : List Part) (part : Part) → map ended_of (parts ++ part ∷ []) ≡ map ended_of parts ++ ended_of part ∷ []
ended_more [] part = refl
ended_more (first ∷ parts) part = ap (λ (es : List Ended). ended_of first ∷ es) (ended_more parts part)

matches_more : (kept : List Kept) (parts : List Part) (k : Kept) (part : Part) → k.number ≡ part.number → k.replies.taken ≡ written part.replies
    → Matches kept parts → Matches (kept ++ k ∷ []) (parts ++ part ∷ [])
matches_more [] [] k part number replies is = (number, replies, tt)
matches_more [] (other ∷ parts) k part number replies is = absurd is
matches_more (first ∷ kept) [] k part number replies is = absurd is
matches_more (first ∷ kept) (other ∷ parts) k part number replies is =
    (is.0, is.1, matches_more kept parts k part number replies is.2)

matches_length : (kept : List Kept) (parts : List Part) → Matches kept parts → length parts ≡ length kept
matches_length [] [] is = refl
matches_length [] (other ∷ parts) is = absurd is
matches_length (first ∷ kept) [] is = absurd is
matches_length (first ∷ kept) (other ∷ parts) is = ap suc (matches_length kept parts is.2)

pub left_more : (hub : TableId) (lines : List (List ℕ)) (played : Played) (p q : Known) (kept : List Kept) (k : Kept) → HasPlayed hub lines played
    → k.number ≡ played.number → k.replies ≡ played.replies → Inherits p played.pass.view q → Left lines p kept → Left lines q (kept ++ k ∷ [])
left_more hub lines played p q kept k here number replies joins left = record {
  number = joins.grows.number ∙ left.number;
  made = joins.grows.made ∙ left.made;
  given = joins.given ∙ left.given;
  parts = left.parts ++ here.part ∷ [];
  ended =
      joins.ended ∙ ap (λ (es : List Ended). es ++ left_behind played.pass.view.number played.pass.view) left.ended
      ∙ ap (λ (es : List Ended). map ended_of left.parts ++ es) behind ∙ sym (ended_more left.parts here.part);
  plays = one_more (PlaysInto lines q.log q.heard) left.parts here.part (all_further lines p q joins.grows left.parts left.plays) into;
  matches =
      matches_more kept left.parts k here.part (number ∙ sym here.number) (ap (λ s. s.taken) replies ∙ here.replies) left.matches;
}
  where
    behind : left_behind played.pass.view.number played.pass.view ≡ ended_of here.part ∷ []
    behind =
        ap (λ (n : Option ℕ). left_behind n played.pass.view) here.number_is
        ∙ (λ i. record { caller = here.part.number; made = sym here.made i; given = sym here.given i } ∷ here.ended i)

    into : PlaysInto lines q.log q.heard here.part
    into = record {
      plays = here.plays;
      seen = subst (StartsWith q.log) (sym here.log) joins.log;
      told = (let h = here.heard in let m = joins.heard in omega arith);
    }

-- ---- every reply is one line

clean_of : (said : List ℕ) (answer : Reply) → said ≡ reply_line answer → IsOneLine said
clean_of said answer is = subst IsOneLine (sym is) (reply_clean answer)

apart : (asked : Result Request Reply) (said : List ℕ) → ApartFor asked said → IsOneLine said
apart (Err refusal) said is = clean_of said refusal is
apart (Ok (Lint source)) said is = clean_of said is.reply is.written
apart (Ok (Publish change)) said is = absurd is
apart (Ok (Format tag id arguments since)) said is = absurd is
apart (Ok Stat) said is = absurd is

module _ (log : List Entry) (caller : ℕ) where
  one_line : (line said : List ℕ) (before after : Standing) → Step log caller line said before after → IsOneLine said
  one_line line said before after (steps.no_memory is) = subst IsOneLine (sym is) memory_clean
  one_line line said before after (steps.stands_apart is) = apart (request_of line) said is
  one_line line said before after (steps.is_accepted change k is above within entry) = clean_of said (reply.Accepted k (op_of change)) is.replied
  one_line line said before after (steps.is_refused k is from within) = clean_of said (refusal_reply is.refusal) is.replied
  one_line line said before after (steps.is_answered k is from within) = clean_of said is.replied.reply is.replied.written
  one_line line said before after (steps.is_counted k is from within) = clean_of said (reply.Stat k is.starts is.quits) is.replied

  all_lines : (lines replies : List (List ℕ)) (before after : Standing) → Steps log caller lines replies before after → AllByRecursion IsOneLine replies
  all_lines [] [] before after is = tt
  all_lines [] (said ∷ replies) before after is = absurd is
  all_lines (line ∷ lines) [] before after is = absurd is
  all_lines (line ∷ lines) (said ∷ replies) before after is =
      (one_line line said before is.0 is.1, all_lines lines replies is.0 after is.2)

are_lines : (lines : List (List ℕ)) (log : List Entry) (heard : ℕ) (parts : List Part) → AllByRecursion (PlaysInto lines log heard) parts → AreLines parts
are_lines lines log heard [] all = tt
are_lines lines log heard (part ∷ parts) all = (
  (let t = all.0.plays.transcript in
      all_lines part.log part.number (requests_of part.number lines) part.replies (stands_at part.number part.log 0) t.end t.steps),
  are_lines lines log heard parts all.1,
)

caller_lines : (parts : List Part) (caller : ℕ) → AreLines parts → AllByRecursion IsOneLine (replies_of parts caller)
caller_lines [] caller all = tt
caller_lines (part ∷ parts) caller all = by (caller_lines parts caller all.1) (part.number == caller)
  where
    by : AllByRecursion IsOneLine (replies_of parts caller) → (b : Bool)
        → AllByRecursion IsOneLine (if b then part.replies else replies_of parts caller)
    by rest true = all.0
    by rest false = rest

-- ---- what is written of them

-- one more caller's
pub printed_more : (caller next : ℕ) (parts : List Part) (old new said : List ℕ) → next ≡ caller + 1 → AreLines parts
    → old ≡ replies_print (replies_of parts) caller → said ≡ written (replies_of parts next)
    → new ≡ old ++ flat_map (tagged next) (lines_of said) → new ≡ replies_print (replies_of parts) next
printed_more caller next parts old new said is all before replies now =
    now
    ∙ ap (λ (l : List ℕ). l ++ flat_map (tagged next) (lines_of said)) before
    ∙ ap (λ (l : List (List ℕ)). replies_print (replies_of parts) caller ++ flat_map (tagged next) l)
    (ap lines_of replies ∙ lines_again (replies_of parts next) (caller_lines parts next all))
    ∙ subst
    (λ (n : ℕ). replies_print (replies_of parts) caller ++ flat_map (tagged n) (replies_of parts n) ≡ replies_print (replies_of parts) n)
    (sym (is ∙ plus)) refl
  where
    plus : caller + 1 ≡ suc caller
    plus = omega arith

-- all of it
rehearsed : (lines : List (List ℕ)) (p : Known) (log : List Entry) (kept : List Kept) (output : List ℕ) → HaveLeft lines p kept → ClosesLater p log
    → ((parts : List Part) → Matches kept parts → AreLines parts → output ≡ print (callers_in lines) (replies_of parts) log)
    → IsRehearsal lines output
rehearsed lines p log kept output have closes prints =
    let left = have.left in
    let q = closes.last in
    let parts = left.parts in
    let history =
    one_history lines q log parts (closes.grows.number ∙ left.number) (closes.grows.made ∙ left.made) (closes.keeps.given ∙ left.given)
    (closes.keeps.ended ∙ left.ended) (matches_length kept parts left.matches ∙ have.many)
    (all_further lines p q closes.grows parts left.plays) closes.closes in
    record {
      log = log;
      replies = replies_of parts;
      each = history.1;
      legal = history.0;
      is = prints parts left.matches (are_lines lines p.log p.heard parts left.plays);
    }

pub all_rehearsed : {E : Type 0} (lines : List (List ℕ)) (p : Known) (log : List Entry) (kept slice : List Kept) (callers : ℕ)
    (result : Result (Vec ℕ Global) E) → HaveLeft lines p kept → ClosesLater p log → slice ≡ kept → callers ≡ callers_in lines
    → IfOk result (λ output. (parts : List Part) → Matches slice parts → AreLines parts → output.items ≡ print callers (replies_of parts) log)
    → IfOk result (λ output. IsRehearsal lines output.items)
all_rehearsed lines p log kept slice callers (Err error) have closes is many prints = tt
all_rehearsed lines p log kept slice callers (Ok output) have closes is many prints =
    rehearsed lines p log kept output.items have closes
    (λ parts matches all.
    prints parts (subst (λ (ks : List Kept). Matches ks parts) (sym is) matches) all ∙ ap (λ (n : ℕ). print n (replies_of parts) log) many)
