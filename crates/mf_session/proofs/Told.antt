-- The calls of a caller that shares a log are its transcript.
use Rattle.std.proofs.Common.{◌≡◌, ◌∙◌, ℕ, zero, suc, ◌<◌, ◌≤◌, ◌==◌, ◌&&◌, ◌||◌, Bool, true, false, List, [], ◌∷◌, ◌++◌, length, length-append, take, Contains, Option, Some, Ok, refl, ap, sym, subst, arith, if◌then◌else◌}
use Rattle.atomic_table.specs.Seated.{TableId}
use Rattle.std.specs.List.{list_any, AllByRecursion}
use Rattle.std.specs.Prelude.{slice_get, slice_index_or}
use Rattle.std.specs.Str.{bytes_eq}
use Rattle.std.proofs.lemmas.Bool.{eq-eqb, eqb-true}
use Rattle.std.proofs.lemmas.Slice.Eq.{bytes_eq-Decides}
use Rattle.mf_answer.specs.Answers as answers
use Rattle.mf_answer.specs.Answers.{Answer}
use Rattle.mf_edition.proofs.EditionLaws.{newest}
use Rattle.mf_edition.specs.Edition.{newest_edition, EditionState}
use Rattle.mf_edition.specs.declared.change.Change.{Change}
use Rattle.mf_edition.specs.declared.change.Entry.{Entry}
use Rattle.mf_edition.specs.declared.error.Refusal.{Refusal}
use Rattle.mf_edition.specs.declared.error.Refusal.TheVariants as full
use Rattle.mf_hub.proofs.Accounts.{made_is}
use Rattle.mf_hub.specs.Passes.{Grows, HasMadeAll, Keeps, Known, PassState, Publishes, Sees, Tells}
use Rattle.mf_hub.specs.Stores.{caller_of}
use Rattle.mf_hub.specs.declared.stat.Stat.{Stat}
use Rattle.mf_legal.specs.Calls.{entry_at, made_by, one_if, Exchange}
use Rattle.mf_legal.specs.Histories.{forgone, ShowAtMost}
use Rattle.mf_io.specs.declared.bounds.Caps.{Caps}
use Rattle.mf_io.specs.declared.statuses.Status.{Status}
use Rattle.mf_io.specs.declared.statuses.Status.TheVariants.{Ended, InputFull, LineTooLong, ListenFault, OutOfMemory, ReadFault, Usage, WriteFault}
use Rattle.mf_lines.proofs.Following.{breaks_follow, ends_follow, fills_follow, overruns_follow, stops_follow}
use Rattle.mf_lines.specs.Served.{Served}
use Rattle.mf_lines.specs.Sessions.{Outcome}
use Rattle.mf_session.specs.Sharing.{no_memory, stands_apart, is_accepted, is_refused, is_answered, is_counted, Call, Calls, GivesAtMost, SharedOutcome, Told}
use Rattle.mf_session.proofs.Shows.{all_kept}
use Rattle.mf_session.specs.Turns.{stat_reply}
use Rattle.mf_transcript.proofs.Following.{steps_stay}
use Rattle.mf_transcript.proofs.Shown.{memory_shows, others_show, stat_shows}
use Rattle.mf_transcript.specs.Asked.{request_of}
use Rattle.mf_transcript.specs.Lines.{asks_format, exchanges_of, line_service, ShowsAtMost}
use Rattle.mf_transcript.specs.Replies.{answer_reply, refusal_reply, shows_counts}
use Rattle.mf_transcript.specs.Served.{count_among, in_edition, served_by, with_edition}
use Rattle.mf_transcript.specs.Steps as steps
use Rattle.mf_transcript.specs.Steps.{gets, makes, next_entry, sees, Counts, Standing, Step}
use Rattle.mf_transcript.specs.Transcripts.{stands_at, Steps}
use Rattle.mf_turn.proofs.Lists.{one_if-same, starts_itself, starts_through}
use Rattle.mf_turn.proofs.Numbers.{entries_by-append}
use Rattle.mf_turn.specs.Account.{entries_by}
use Rattle.mf_turn.specs.Sums.{StartsWith}
use Rattle.mf_wire.specs.Replies.{memory_line, reply_line}
use Rattle.mf_wire.specs.declared.reply.Reply.TheVariants as reply
use Rattle.mf_wire.specs.declared.request.Request.TheVariants.{Stat as AskStat}

-- ---- what a caller has seen, and been served

longer : (log more : List Entry) → StartsWith more log → length log ≤ length more
longer log more starts = let a = length-append log starts.0 in let b = ap length starts.1 in omega arith

starts : (u : Known) (log : List Entry) → Sees u log → StartsWith log u.log
starts u log sees = (sees.more, sees.grown)

all_both : {X : Type 0} (P : X → Type 0) (xs ys : List X) → AllByRecursion P xs → AllByRecursion P ys → AllByRecursion P (xs ++ ys)
all_both P [] ys one other = other
all_both P (x ∷ xs) ys one other = (one.0, all_both P xs ys one.1 other)

-- the entries of a caller that has made nothing more
made_still : (n : ℕ) (u : Known) (log : List Entry) → u.number ≡ Some n → Sees u log → entries_by caller_of n u.log ≡ u.made
    → entries_by caller_of n log ≡ u.made
made_still n u log own seen all =
    let parts = entries_by-append caller_of n u.log seen.more in
    let whole = ap (entries_by caller_of n) seen.grown in
    let none = seen.others n own in
    omega arith

made_all : (n : ℕ) (u v : Known) → u.number ≡ Some n → Grows u v → entries_by caller_of n u.log ≡ u.made → entries_by caller_of n v.log ≡ v.made
made_all n u v own grows all = made_still n u v.log own grows.log all ∙ sym grows.made

-- ---- messages among others

true_or : (a b : Bool) → a ≡ true → (a || b) ≡ true
true_or true b is = refl
true_or false b is = cc

or_true : (a b : Bool) → b ≡ true → (a || b) ≡ true
or_true true b is = refl
or_true false b is = is

by_or : {C : Type 0} (a b : Bool) → (a ≡ true → C) → (b ≡ true → C) → (a || b) ≡ true → C
by_or true b left right is = left refl
by_or false b left right is = right is

-- where a message stands among those of an edition, it is one of the pairs
in_pairs : (k i : ℕ) (pairs : List (ℕ × ℕ)) → list_any (λ index. index == i) (in_edition k pairs) ≡ true → Contains pairs (k, i)
in_pairs k i [] is = cc
in_pairs k i (pair ∷ pairs) is = by (in_pairs k i pairs) (pair.0 == k) refl is
  where
    further : Contains pairs (k, i) → Contains (pair ∷ pairs) (k, i)
    further at = (suc at.0, (let l = at.1 in omega arith), at.2)

    by : (list_any (λ index. index == i) (in_edition k pairs) ≡ true → Contains pairs (k, i)) → (b : Bool) → (pair.0 == k) ≡ b
        → list_any (λ index. index == i) (if b then pair.1 ∷ in_edition k pairs else in_edition k pairs) ≡ true → Contains (pair ∷ pairs) (k, i)
    by rest true here among =
        by_or (pair.1 == i) (list_any (λ index. index == i) (in_edition k pairs))
        (λ same. (0, omega arith, λ l. (eqb-true pair.0 k here l, eqb-true pair.1 i same l)))
        (λ more. further (rest more))
        among
    by rest false here among = further (rest among)

pairs_in : (k i n : ℕ) (pairs : List (ℕ × ℕ)) → n < length pairs → slice_index_or pairs n (k, i) ≡ (k, i)
    → list_any (λ index. index == i) (in_edition k pairs) ≡ true
pairs_in k i n [] less is = absurd (omega (arith, less))
pairs_in k i zero (pair ∷ pairs) less is =
    let one = eq-eqb pair.0 k (ap (λ (p : ℕ × ℕ). p.0) is) in
    let other = eq-eqb pair.1 i (ap (λ (p : ℕ × ℕ). p.1) is) in
    ap (λ b. list_any (λ index. index == i) (if b then pair.1 ∷ in_edition k pairs else in_edition k pairs)) one
    ∙ true_or (pair.1 == i) (list_any (λ index. index == i) (in_edition k pairs)) other
pairs_in k i (suc n) (pair ∷ pairs) less is = by (pair.0 == k) (pairs_in k i n pairs (omega (arith, less)) is)
  where
    by : (b : Bool) → list_any (λ index. index == i) (in_edition k pairs) ≡ true
        → list_any (λ index. index == i) (if b then pair.1 ∷ in_edition k pairs else in_edition k pairs) ≡ true
    by true more = or_true (pair.1 == i) (list_any (λ index. index == i) (in_edition k pairs)) more
    by false more = more

at_all : (P : ℕ × ℕ → Type 0) (pairs : List (ℕ × ℕ)) (pair : ℕ × ℕ) (n : ℕ) → AllByRecursion P pairs → n < length pairs
    → slice_index_or pairs n pair ≡ pair → P pair
at_all P [] pair n all less is = absurd (omega (arith, less))
at_all P (first ∷ pairs) pair zero all less is = subst P is all.0
at_all P (first ∷ pairs) pair (suc n) all less is = at_all P pairs pair n all.1 (omega (arith, less)) is

more_if : (a b : Bool) → (a ≡ true → b ≡ true) → one_if a ≤ one_if b
more_if true b implies = let is = ap one_if (implies refl) in omega arith
more_if false b implies = omega arith

-- more messages count for no less
count_more : (some more : List ℕ) (n : ℕ)
    → ((i : ℕ) → list_any (λ index. index == i) some ≡ true → list_any (λ index. index == i) more ≡ true)
    → count_among some n ≤ count_among more n
count_more some more zero within = omega arith
count_more some more (suc n) within =
    omega (arith, count_more some more n within, more_if (list_any (λ index. index == n) some) (list_any (λ index. index == n) more) (within n))

-- ---- one line

-- where a caller stands, as what it knows says it
pub record Agrees (n : ℕ) (s : Standing) (u : Known) : Type 0 where
  pub own : u.number ≡ Some n
  pub seen : s.edition ≤ length u.log
  pub made : s.made ≡ u.made
  pub all : entries_by caller_of n u.log ≡ u.made
  pub served : AllByRecursion (Contains u.served) s.served

-- a line takes a caller on, over what it has seen then
pub record Follows (n : ℕ) (line said : List ℕ) (s : Standing) (u v : Known) : Type 0 where
  pub after : Standing
  pub step : Step v.log n line said s after
  pub agrees : Agrees n after v
  pub log : StartsWith v.log u.log
  pub heard : u.heard ≤ v.heard
  pub quits : ShowsAtMost v.heard said
  pub gives : GivesAtMost (one_if (asks_format (request_of line) && bytes_eq said memory_line)) u v

kept_gives : (many : ℕ) (u v : Known) → Keeps u v → GivesAtMost many u v
kept_gives many u v keeps = let same = keeps.given in record { ended = keeps.ended; least = omega arith; most = omega arith }

memory_gives : (asks memory : Bool) (u v : Known) → memory ≡ true → GivesAtMost (one_if asks) u v → GivesAtMost (one_if (asks && memory)) u v
memory_gives true memory u v is gives = subst (λ (b : Bool). GivesAtMost (one_if b) u v) (sym is) gives
memory_gives false memory u v is gives = gives

answer_plain : (k : ℕ) (answer : Answer) → shows_counts (answer_reply k answer) ≡ false
answer_plain k (answers.not_yet since) = refl
answer_plain k answers.no_message = refl
answer_plain k answers.too_long = refl
answer_plain k (answers.formatted tag parts faults) = refl

refusal_plain : (refusal : Refusal) → shows_counts (refusal_reply refusal) ≡ false
refusal_plain (full.EditionsFull entries) = refl
refusal_plain (full.StoreFull used size) = refl

last_entry : (before : List Entry) (entry : Entry) → slice_get (before ++ entry ∷ []) (length before) ≡ Some entry
last_entry [] entry = refl
last_entry (e ∷ before) entry = last_entry before entry

module _ (n : ℕ) (line said : List ℕ) (s : Standing) (u v : Known) (agrees : Agrees n s u) where
  kept_served : ((pair : ℕ × ℕ) → Contains u.served pair → Contains v.served pair) → AllByRecursion (Contains v.served) s.served
  kept_served keeps = all_kept (Contains u.served) (Contains v.served) s.served keeps agrees.served

  agrees_at : Grows u v → (t : Standing) → t.edition ≤ length v.log → t.made ≡ s.made → AllByRecursion (Contains v.served) t.served → Agrees n t v
  agrees_at grows t seen made served = record {
    own = grows.number ∙ agrees.own;
    seen = seen;
    made = made ∙ agrees.made ∙ sym grows.made;
    all = made_all n u v agrees.own grows agrees.all;
    served = served;
  }

  more_seen : Grows u v → s.edition ≤ length v.log
  more_seen grows = let l = longer u.log v.log (starts u v.log grows.log) in let e = agrees.seen in omega arith

  forgoes : said ≡ memory_line → Grows u v → GivesAtMost (one_if (asks_format (request_of line))) u v → Follows n line said s u v
  forgoes is grows gives = record {
    after = s;
    step = steps.no_memory is;
    agrees = agrees_at grows s (more_seen grows) refl (kept_served grows.served);
    log = starts u v.log grows.log;
    heard = grows.heard;
    quits = subst (ShowsAtMost v.heard) (sym is) (memory_shows v.heard);
    gives = memory_gives (asks_format (request_of line)) (bytes_eq said memory_line) u v ((bytes_eq-Decides said memory_line).1 is) gives;
  }

  accepted : (change : Change) (k : ℕ) → steps.Accepts line change k said → Publishes change k u v → Keeps u v → Follows n line said s u v
  accepted change k accepts publishes keeps =
      let same : publishes.caller ≡ n = some_is publishes.caller n (sym publishes.own ∙ agrees.own) in
      let entry : Entry = next_entry publishes.caller u.made change in
      let log : v.log ≡ publishes.before ++ entry ∷ [] = publishes.log in
      let long = ap length log ∙ length-append publishes.before (entry ∷ []) in
      let edition = publishes.edition in
      let below = longer u.log publishes.before (starts u publishes.before publishes.others) in
      let seen = agrees.seen in
      let at : k ≡ suc (length publishes.before) = omega arith in
      let here : entry_at v.log k ≡ Some entry =
      ap (entry_at v.log) at ∙ ap (λ (l : List Entry). slice_get l (length publishes.before)) log ∙ last_entry publishes.before entry in
      record {
        after = makes s k;
        step = steps.is_accepted change k accepts (omega arith) (omega arith)
            (here ∙ λ i. Some (next_entry (same i) (sym agrees.made i) change));
        agrees = record {
          own = publishes.same ∙ agrees.own;
          seen = omega arith;
          made = (let a = agrees.made in let b = publishes.made in omega arith);
          all =
              let parts = ap (entries_by caller_of n) log ∙ entries_by-append caller_of n publishes.before (entry ∷ []) in
              let front = made_still n u publishes.before agrees.own publishes.others agrees.all in
              let one = ap (λ (m : ℕ). entries_by caller_of n (next_entry m u.made change ∷ [])) same in
              let mine = one_if-same n in
              let b = publishes.made in
              omega arith;
          served = kept_served publishes.served;
        };
        log = starts_through v.log publishes.before u.log (entry ∷ [], sym log) (starts u publishes.before publishes.others);
        heard = publishes.heard;
        quits = subst (ShowsAtMost v.heard) (sym accepts.replied) (others_show (reply.Accepted k _) refl v.heard);
        gives = kept_gives _ u v keeps;
      }
    where
      some_is : (a b : ℕ) → Some a ≡ Some b → a ≡ b
      some_is a b is = cc

  refused : steps.Refuses v.log (length v.log) line said → Grows u v → Keeps u v → Follows n line said s u v
  refused refuses grows keeps = record {
    after = sees s (length v.log);
    step = steps.is_refused (length v.log) refuses (more_seen grows) (omega arith);
    agrees = agrees_at grows (sees s (length v.log)) (omega arith) refl (kept_served grows.served);
    log = starts u v.log grows.log;
    heard = grows.heard;
    quits = subst (ShowsAtMost v.heard) (sym refuses.replied) (others_show (refusal_reply refuses.refusal) (refusal_plain refuses.refusal) v.heard);
    gives = kept_gives _ u v keeps;
  }

  answered : (k : ℕ) → steps.Answers v.log k line said → length u.log ≤ k → k ≤ length v.log
      → AllByRecursion (Contains v.served) (with_edition k (served_by v.log k line)) → Grows u v → Keeps u v → Follows n line said s u v
  answered k answers from within served grows keeps = record {
    after = gets s k (served_by v.log k line);
    step = steps.is_answered k answers (let e = agrees.seen in omega arith) within;
    agrees = agrees_at grows (gets s k (served_by v.log k line)) within refl
        (all_both (Contains v.served) s.served (with_edition k (served_by v.log k line)) (kept_served grows.served) served);
    log = starts u v.log grows.log;
    heard = grows.heard;
    quits =
        let due = answers.replied.due in
        subst (ShowsAtMost v.heard) (sym (answers.replied.written ∙ ap reply_line due.is))
        (others_show (answer_reply k due.answer) (answer_plain k due.answer) v.heard);
    gives = kept_gives _ u v keeps;
  }

  counted : (stat : Stat) → request_of line ≡ Ok AskStat → said ≡ reply_line (stat_reply stat) → Tells stat v → Grows u v → Keeps u v
      → Follows n line said s u v
  counted stat asked replied tells grows keeps =
      let k : ℕ = length v.log in
      let said_is : said ≡ reply_line (reply.Stat k stat.starts stat.quits) =
      replied ∙ ap (λ (e : ℕ). reply_line (reply.Stat e stat.starts stat.quits)) tells.edition_is in
      let items = ap (λ (e : EditionState). length e.items) (newest v.log) in
      let fewer = count_more (in_edition k s.served) (in_edition k v.served) (length (newest_edition v.log).items)
      (λ i is.
      let one = in_pairs k i s.served is in
      let other = at_all (Contains v.served) s.served (k, i) one.0 (kept_served grows.served) one.1 one.2 in
      pairs_in k i other.0 v.served other.1 other.2) in
      let fewest = ap (λ (m : ℕ). count_among (in_edition k s.served) m) items in
      record {
        after = sees s k;
        step = steps.is_counted k
            (record {
              starts = stat.starts;
              quits = stat.quits;
              asked = asked;
              replied = said_is;
              least = let a = tells.least in omega arith;
              most = let a = tells.most in omega arith;
            })
            (more_seen grows) (omega arith);
        agrees = agrees_at grows (sees s k) (omega arith) refl (kept_served grows.served);
        log = starts u v.log grows.log;
        heard = grows.heard;
        quits = subst (ShowsAtMost v.heard) (sym said_is) (stat_shows k stat.starts stat.quits v.heard tells.small tells.heard);
        gives = kept_gives _ u v keeps;
      }

  apart_same : steps.IsApart line said → ((most : ℕ) → ShowsAtMost most said) → v ≡ u → Follows n line said s u v
  apart_same apart plain same = record {
    after = s;
    step = steps.stands_apart apart;
    agrees = subst (Agrees n s) (sym same) agrees;
    log = subst (λ (z : Known). StartsWith z.log u.log) (sym same) (starts_itself u.log);
    heard = let h = ap (λ (z : Known). z.heard) same in omega arith;
    quits = plain v.heard;
    gives = kept_gives _ u v (record { given = ap (λ (z : Known). z.given) same; ended = ap (λ (z : Known). z.ended) same });
  }

  pub follows : Call line said u v → Follows n line said s u v
  follows (no_memory is grows gives) = forgoes is grows gives
  follows (stands_apart apart plain same) = apart_same apart plain same
  follows (is_accepted change k accepts publishes keeps) = accepted change k accepts publishes keeps
  follows (is_refused refuses grows keeps) = refused refuses grows keeps
  follows (is_answered k answers from within served grows keeps) = answered k answers from within served grows keeps
  follows (is_counted stat asked replied tells grows keeps) = counted stat asked replied tells grows keeps

-- ---- all lines

-- a line and its reply, of what the caller knows alone
abbrev pub KnownCalls : Known → List ℕ → List ℕ → Known → Type 0
KnownCalls p line said q = Call line said p q

-- lines take a caller on, over what it has seen at the end
record FollowAll (n : ℕ) (lines replies : List (List ℕ)) (s : Standing) (u q : Known) : Type 0 where
  pub end : Standing
  pub steps : Steps q.log n lines replies s end
  pub agrees : Agrees n end q
  pub log : StartsWith q.log u.log
  pub heard : u.heard ≤ q.heard
  pub quits : ShowAtMost line_service q.heard (exchanges_of lines replies)
  pub gives : GivesAtMost (forgone line_service (exchanges_of lines replies)) u q

step_stays : (log more : List Entry) (n : ℕ) (line said : List ℕ) (before after : Standing) → StartsWith more log
    → Step log n line said before after → Step more n line said before after
step_stays log more n line said before after goes step =
    let further = steps_stay log goes.0 n (line ∷ []) (said ∷ []) before after (after, step, refl) in
    let is : after ≡ further.0 = further.2 in
    subst (λ (l : List Entry). Step l n line said before after) goes.1
    (subst (λ (z : Standing). Step (log ++ goes.0) n line said before z) (sym is) further.1)

shows_more : (few many : ℕ) (said : List ℕ) → few ≤ many → ShowsAtMost few said → ShowsAtMost many said
shows_more few many said less shows k starts quits is = let h = shows k starts quits is in omega arith

follow_all : (n : ℕ) (lines replies : List (List ℕ)) (s : Standing) (u q : Known) → Agrees n s u → Served KnownCalls u lines replies q
    → FollowAll n lines replies s u q
follow_all n [] [] s u q agrees served = record {
  end = s;
  steps = refl;
  agrees = subst (Agrees n s) (sym served) agrees;
  log = subst (λ (z : Known). StartsWith z.log u.log) (sym served) (starts_itself u.log);
  heard = let h = ap (λ (z : Known). z.heard) served in omega arith;
  quits = tt;
  gives = kept_gives 0 u q (record { given = ap (λ (z : Known). z.given) served; ended = ap (λ (z : Known). z.ended) served });
}
follow_all n [] (said ∷ replies) s u q agrees served = absurd served
follow_all n (line ∷ lines) [] s u q agrees served = absurd served
follow_all n (line ∷ lines) (said ∷ replies) s u q agrees served =
    let v : Known = served.0 in
    let first = follows n line said s u v agrees served.1 in
    let rest = follow_all n lines replies first.after v q first.agrees served.2 in
    record {
      end = rest.end;
      steps = (first.after, step_stays v.log q.log n line said s first.after rest.log first.step, rest.steps);
      agrees = rest.agrees;
      log = starts_through q.log v.log u.log rest.log first.log;
      heard = let a = first.heard in let b = rest.heard in omega arith;
      quits = (shows_more v.heard q.heard said rest.heard first.quits, rest.quits);
      gives = record {
        ended = rest.gives.ended ∙ first.gives.ended;
        least = (let a = first.gives.least in let b = rest.gives.least in omega arith);
        most = (let a = first.gives.most in let b = rest.gives.most in omega arith);
      };
    }

take_front : (front more : List Entry) → take (length front) (front ++ more) ≡ front
take_front [] more = refl
take_front (e ∷ front) more = ap (λ (l : List Entry). e ∷ l) (take_front front more)

-- what its lines and replies come to, also after it has seen more
pub told : (p last q : Known) (n : ℕ) (lines replies : List (List ℕ)) → p.number ≡ Some n → HasMadeAll p → Served KnownCalls p lines replies last
    → Grows last q → Keeps last q → (hub over : TableId) → Told (record { hub = hub; view = p }) lines replies (record { hub = over; view = q })
told p last q n lines replies own made served grows keeps hub over =
    let begun : Standing = stands_at n q.log (length p.log) in
    let there : StartsWith q.log p.log = (starts_all.0, starts_all.1) in
    let at : take (length p.log) q.log ≡ p.log = ap (take (length p.log)) (sym there.1) ∙ take_front p.log there.0 in
    let mine : begun.made ≡ p.made = ap (made_by n) at ∙ made_is n p.log ∙ made n own in
    let all = follow_all n lines replies begun p last (agrees_first begun (omega arith) mine tt) served in
    record {
      number = n;
      own = own;
      same = grows.number ∙ all.agrees.own;
      log = there;
      transcript = record {
        end = all.end;
        steps =
            subst (λ (l : List Entry). Steps l n lines replies begun all.end) grows.log.grown
            (steps_stay last.log grows.log.more n lines replies begun all.end all.steps);
        within = (let a = all.agrees.seen in let b = longer last.log q.log (starts last q.log grows.log) in omega arith);
        all =
            all.agrees.made ∙ sym grows.made ∙ sym (made_all n last q all.agrees.own grows all.agrees.all) ∙ sym (made_is n q.log);
      };
      served = all_kept (Contains last.served) (Contains q.served) all.end.served grows.served all.agrees.served;
      quits = all_more all.quits;
      gives = record {
        ended = keeps.ended ∙ all.gives.ended;
        least = (let a = all.gives.least in let b = keeps.given in omega arith);
        most = (let a = all.gives.most in let b = keeps.given in omega arith);
      };
    }
  where
    agrees_first : (begun : Standing) → begun.edition ≤ length p.log → begun.made ≡ p.made → AllByRecursion (Contains p.served) begun.served
        → Agrees n begun p
    agrees_first begun seen mine none = record { own = own; seen = seen; made = mine; all = made n own; served = none }

    -- the log at the end, as one that goes on from the one at the beginning
    starts_all : StartsWith q.log p.log
    starts_all =
        let more = log_of lines replies p last served in
        starts_through q.log last.log p.log (starts last q.log grows.log) more
      where
        grown : (line said : List ℕ) (u v : Known) → Call line said u v → StartsWith v.log u.log
        grown line said u v (no_memory is grows gives) = starts u v.log grows.log
        grown line said u v (stands_apart apart plain same) = subst (λ (z : Known). StartsWith z.log u.log) (sym same) (starts_itself u.log)
        grown line said u v (is_accepted change k accepts publishes keeps) =
            starts_through v.log publishes.before u.log
            (next_entry publishes.caller u.made change ∷ [], sym publishes.log) (starts u publishes.before publishes.others)
        grown line said u v (is_refused refuses grows keeps) = starts u v.log grows.log
        grown line said u v (is_answered k answers from within served grows keeps) = starts u v.log grows.log
        grown line said u v (is_counted stat asked replied tells grows keeps) = starts u v.log grows.log

        log_of : (lines replies : List (List ℕ)) (u v : Known) → Served KnownCalls u lines replies v → StartsWith v.log u.log
        log_of [] [] u v served = subst (λ (z : Known). StartsWith z.log u.log) (sym served) (starts_itself u.log)
        log_of [] (said ∷ replies) u v served = absurd served
        log_of (line ∷ lines) [] u v served = absurd served
        log_of (line ∷ lines) (said ∷ replies) u v served =
            starts_through v.log served.0.log u.log (log_of lines replies served.0 v served.2) (grown line said u served.0 served.1)

    all_more : ShowAtMost line_service last.heard (exchanges_of lines replies) → ShowAtMost line_service q.heard (exchanges_of lines replies)
    all_more shows = all_kept _ _ (exchanges_of lines replies)
        (λ (e : Exchange (List ℕ) (List ℕ)) is. shows_more last.heard q.heard e.reply grows.heard is) shows

known_calls : (lines replies : List (List ℕ)) (p q : PassState) → Served Calls p lines replies q → Served KnownCalls p.view lines replies q.view
known_calls [] [] p q served = ap (λ (z : PassState). z.view) served
known_calls [] (said ∷ replies) p q served = absurd served
known_calls (line ∷ lines) [] p q served = absurd served
known_calls (line ∷ lines) (said ∷ replies) p q served = (served.0.view, served.1.2, known_calls lines replies served.0 q served.2)

same_hub : (lines replies : List (List ℕ)) (p q : PassState) → Served Calls p lines replies q → q.hub ≡ p.hub
same_hub [] [] p q served = ap (λ (z : PassState). z.hub) served
same_hub [] (said ∷ replies) p q served = absurd served
same_hub (line ∷ lines) [] p q served = absurd served
same_hub (line ∷ lines) (said ∷ replies) p q served = same_hub lines replies served.0 q served.2 ∙ served.1.0

module _ (caps : Caps) (p last q : PassState) (left left' taken taken' : Option (List ℕ)) where
  -- after a session the pass is of the same hub
  pub hub_stays : (status : Status) (Unread Unwritten : Type 0)
      → Outcome (Served Calls) caps p last left left' taken taken' status Unread Unwritten → last.hub ≡ p.hub
  hub_stays Ended Unread Unwritten ends = same_hub _ ends.answers.replies p last ends.answers.served
  hub_stays ReadFault Unread Unwritten breaks = same_hub breaks.takes.lines breaks.takes.answers.replies p last breaks.takes.answers.served
  hub_stays WriteFault Unread Unwritten stops =
      same_hub stops.lines (stops.answers.whole ++ stops.answers.begun) p last stops.answers.served
  hub_stays LineTooLong Unread Unwritten overruns =
      same_hub overruns.takes.lines overruns.takes.answers.replies p last overruns.takes.answers.served
  hub_stays InputFull Unread Unwritten fills = same_hub fills.takes.lines fills.takes.answers.replies p last fills.takes.answers.served
  hub_stays OutOfMemory Unread Unwritten refused = ap (λ (z : PassState). z.hub) refused.2
  hub_stays Usage Unread Unwritten never = absurd never
  hub_stays ListenFault Unread Unwritten never = absurd never

  module _ (n : ℕ) (own : p.view.number ≡ Some n) (made : HasMadeAll p.view) (grows : Grows last.view q.view) (keeps : Keeps last.view q.view) where
    follows_told : (lines replies : List (List ℕ)) → Served Calls p lines replies last → Told p lines replies q
    follows_told lines replies served =
        told p.view last.view q.view n lines replies own made (known_calls lines replies p last served) grows keeps p.hub q.hub

    -- what a session comes to, once its pin is gone
    pub shared_outcome : (status : Status) (Unread Unwritten : Type 0)
        → Outcome (Served Calls) caps p last left left' taken taken' status Unread Unwritten
        → SharedOutcome caps p q left left' taken taken' status Unread Unwritten
    shared_outcome Ended Unread Unwritten ends = ends_follow (Served Calls) Told caps p last q left left' taken taken' follows_told ends
    shared_outcome ReadFault Unread Unwritten breaks =
        breaks_follow (Served Calls) Told caps p last q left left' taken taken' follows_told breaks
    shared_outcome WriteFault Unread Unwritten stops = stops_follow (Served Calls) Told caps p last q left left' taken taken' follows_told stops
    shared_outcome LineTooLong Unread Unwritten overruns =
        overruns_follow (Served Calls) Told caps p last q left left' taken taken' follows_told overruns
    shared_outcome InputFull Unread Unwritten fills = fills_follow (Served Calls) Told caps p last q left left' taken taken' follows_told fills
    shared_outcome OutOfMemory Unread Unwritten refused = (
      refused.0,
      refused.1,
      subst (λ (z : PassState). Grows z.view q.view) refused.2 grows,
      subst (λ (z : PassState). Keeps z.view q.view) refused.2 keeps,
    )
    shared_outcome Usage Unread Unwritten never = never
    shared_outcome ListenFault Unread Unwritten never = never
