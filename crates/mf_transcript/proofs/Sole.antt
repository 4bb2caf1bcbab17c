-- What the one caller of a desk sends and gets is a transcript over the log afterwards.
use Rattle.std.proofs.Common.{◌≡◌, ◌∙◌, ℕ, zero, suc, ◌+◌, ◌<◌, ◌≤◌, Bool, true, false, ◌||◌, ◌==◌, List, [], ◌∷◌, ◌++◌, length, length-append, take, Some, if◌then◌else◌, refl, ap, sym, subst, arith, append_assoc}
use Rattle.std.specs.List.{list_any, slice_get, AllByRecursion}
use Rattle.std.proofs.lemmas.Bool.{eq-eqb, ne_eqb}
use Rattle.std.proofs.lemmas.List.{append-nil, take_at}
use Rattle.mf_edition.specs.Edition.{edition_after, edition_of, empty_edition}
use Rattle.mf_edition.specs.declared.change.Change.{Change}
use Rattle.mf_edition.specs.declared.change.Entry.{Entry}
use Rattle.mf_legal.proofs.Counts.{made-append, made_own}
use Rattle.mf_legal.proofs.Fronts.{after_front, longer_both, same_longer, Longer}
use Rattle.mf_legal.specs.Calls.{entry_at, made_by, one_if}
use Rattle.mf_transcript.specs.Asked.{request_of}
use Rattle.mf_transcript.specs.Laws.{SolesAreTranscripts}
use Rattle.mf_transcript.specs.Served.{count_among, in_edition, served_by, with_edition}
use Rattle.mf_transcript.specs.Sole.{misses, opened, published, serves, CountsOf, Desk, Move, Moves, Progress, Sole}
use Rattle.mf_transcript.specs.Sole as sole
use Rattle.mf_transcript.specs.Steps.{gets, makes, next_entry, sees, Counts, Standing, Step}
use Rattle.mf_transcript.specs.Steps as step
use Rattle.mf_transcript.specs.Transcripts.{stands_at, Steps, Transcript}
use Rattle.mf_transcript.proofs.Fronts.{answers_same, in_edition-append, in_edition-with, refuses_same, served_same}

-- Messages counted once.

any_more : (test : ℕ → Bool) (some more : List ℕ) → list_any test more ≡ true → list_any test (some ++ more) ≡ true
any_more test [] more is = is
any_more test (index ∷ some) more is = by (test index) (any_more test some more is)
  where
    by : (b : Bool) → list_any test (some ++ more) ≡ true → (b || list_any test (some ++ more)) ≡ true
    by true further = refl
    by false further = further

one_more : (a b : Bool) → (a ≡ true → b ≡ true) → one_if a ≤ one_if b
one_more true true implies = omega arith
one_more true false implies = absurd (not_both (implies refl))
  where
    not_both : false ≡ true → ⊥
    not_both is = cc
one_more false b implies = omega arith

-- more messages count for no less, and all of an edition's for no more than it has
count_more : (some more : List ℕ) (n : ℕ) → count_among more n ≤ count_among (some ++ more) n
count_more some more zero = omega arith
count_more some more (suc n) =
    omega (
      arith,
      count_more some more n,
      one_more (list_any (λ index. index == n) more) (list_any (λ index. index == n) (some ++ more)) (any_more (λ index. index == n) some more),
    )

count_most : (indexes : List ℕ) (n : ℕ) → count_among indexes n ≤ n
count_most indexes zero = omega arith
count_most indexes (suc n) = omega (arith, count_most indexes n, one_most (list_any (λ index. index == n) indexes))
  where
    one_most : (b : Bool) → one_if b ≤ 1
    one_most true = omega arith
    one_most false = omega arith

-- the messages of editions up to one
abbrev pub UpTo : ℕ → List (ℕ × ℕ) → Type 0
UpTo k messages = AllByRecursion (λ message. message.0 ≤ k) messages

up_to_more : (j k : ℕ) (messages : List (ℕ × ℕ)) → j ≤ k → UpTo j messages → UpTo k messages
up_to_more j k [] less all = tt
up_to_more j k (message ∷ messages) less all = (omega (arith, less, all.0), up_to_more j k messages less all.1)

up_to-append : (k : ℕ) (some more : List (ℕ × ℕ)) → UpTo k some → UpTo k more → UpTo k (some ++ more)
up_to-append k [] more all rest = rest
up_to-append k (message ∷ some) more all rest = (all.0, up_to-append k some more all.1 rest)

up_to-with : (k : ℕ) (indexes : List ℕ) → UpTo k (with_edition k indexes)
up_to-with k [] = tt
up_to-with k (index ∷ indexes) = (omega arith, up_to-with k indexes)

-- a later edition has none of them
none_later : (j k : ℕ) (messages : List (ℕ × ℕ)) → j < k → UpTo j messages → in_edition k messages ≡ []
none_later j k [] less all = refl
none_later j k (message ∷ messages) less all =
    rw (ne_eqb message.0 k (λ same. omega (arith, same, less, all.0))) (none_later j k messages less all.1)

-- and an edition has its own
in_edition-own : (k : ℕ) (indexes : List ℕ) → in_edition k (with_edition k indexes) ≡ indexes
in_edition-own k indexes = in_edition-with k k indexes ∙ ap (λ b. if b then indexes else []) (eq-eqb k k refl)

-- The log of a desk grows.

grows : (line said : List ℕ) (before after : Progress) → Move line said before after → Longer before.log after.log
grows line said before after (sole.no_memory is) = same_longer before.log before.log refl
grows line said before after (sole.stands_apart is) = same_longer before.log before.log refl
grows line said before after (sole.is_accepted change is room) =
    record { rest = next_entry 0 (length before.log) change ∷ []; split = refl }
grows line said before after (sole.is_refused is) = same_longer before.log before.log refl
grows line said before after (sole.is_answered is) = same_longer before.log before.log refl
grows line said before after (sole.is_counted is) = same_longer before.log before.log refl

all_grow : (lines replies : List (List ℕ)) (before end : Progress) → Moves lines replies before end → Longer before.log end.log
all_grow [] [] before end moves = same_longer before.log end.log (ap (λ (p : Progress). p.log) moves)
all_grow [] (said ∷ replies) before end moves = absurd moves
all_grow (line ∷ lines) [] before end moves = absurd moves
all_grow (line ∷ lines) (said ∷ replies) before end moves =
    longer_both before.log moves.0.log end.log (grows line said before moves.0 moves.1) (all_grow lines replies moves.0 end moves.2)

-- a caller stands where a desk has come to, all of whose entries are its own
pub record Follows (before : Progress) (at : Standing) : Type 0 where
  pub edition : at.edition ≡ length before.log
  pub made : at.made ≡ length before.log
  pub own : made_by 0 before.log ≡ length before.log
  pub front : List ℕ
  pub served : before.served ≡ front ++ in_edition (length before.log) at.served
  pub old : UpTo (length before.log) at.served

-- how a line takes the caller on, over the log at the end
pub record Follow (whole : List Entry) (line said : List ℕ) (at : Standing) (after : Progress) : Type 0 where
  pub next : Standing
  pub step : Step whole 0 line said at next
  pub follows : Follows after next

module _ (whole : List Entry) (line said : List ℕ) (before : Progress) (at : Standing) (follows : Follows before at) (longer : Longer before.log whole) where
  inside : length before.log ≤ length whole
  inside = omega (arith, ap length longer.split, length-append before.log longer.rest)

  front : take (length before.log) before.log ≡ take (length before.log) whole
  front =
      ap (take (length before.log)) (sym (append-nil before.log)) ∙ take_at before.log [] (length before.log) refl
      ∙ sym (take_at before.log longer.rest (length before.log) refl) ∙ ap (take (length before.log)) (sym longer.split)

  from : at.edition ≤ length before.log
  from = omega (arith, follows.edition)

  -- a caller that looks at the newest edition follows
  seen : Follows before (sees at (length before.log))
  seen = record { edition = refl; made = follows.made; own = follows.own; front = follows.front; served = follows.served; old = follows.old }

  counted : CountsOf before line said → Counts whole (length before.log) (in_edition (length before.log) at.served) line said
  counted is = record {
    starts = is.starts;
    quits = is.quits;
    asked = is.asked;
    replied = is.replied;
    least = subst (λ (l : List Entry). is.quits + count_among (in_edition (length before.log) at.served) (length (edition_after empty_edition l).items) ≤ is.starts) front
        (omega (arith, is.least, fewer));
    most = subst (λ (l : List Entry). is.starts ≤ is.quits + length (edition_after empty_edition l).items) front
        (omega (arith, is.most, count_most (before.served ++ before.missed) (length (edition_of before.log (length before.log)).items)));
  }
    where
      fewer : count_among (in_edition (length before.log) at.served) (length (edition_of before.log (length before.log)).items)
          ≤ count_among before.served (length (edition_of before.log (length before.log)).items)
      fewer = subst (λ l. count_among (in_edition (length before.log) at.served) (length (edition_of before.log (length before.log)).items)
          ≤ count_among l (length (edition_of before.log (length before.log)).items)) (sym follows.served)
          (count_more follows.front (in_edition (length before.log) at.served) (length (edition_of before.log (length before.log)).items))

  same_served : served_by before.log (length before.log) line ≡ served_by whole (length before.log) line
  same_served = served_same before.log whole (length before.log) (length before.log) refl front (request_of line)

  -- a caller that is answered at the newest edition follows
  answered : Follows (serves before (served_by before.log (length before.log) line)) (gets at (length before.log) (served_by whole (length before.log) line))
  answered = let k = length before.log in let more = served_by whole k line in record {
    edition = refl;
    made = follows.made;
    own = follows.own;
    front = follows.front;
    served =
        ap (λ l. l ++ served_by before.log k line) follows.served ∙ append_assoc follows.front (in_edition k at.served) (served_by before.log k line)
        ∙ ap (λ l. follows.front ++ l)
        (ap (λ l. in_edition k at.served ++ l) (same_served ∙ sym (in_edition-own k more)) ∙ sym (in_edition-append k at.served (with_edition k more)));
    old = up_to-append k at.served (with_edition k more) follows.old (up_to-with k more);
  }

  -- a caller whose publication is accepted follows
  made : (change : Change) → Follows (published before change) (makes at (length before.log + 1))
  made change = let entry = next_entry 0 (length before.log) change in let long = length-append before.log (entry ∷ []) in record {
    edition = omega (arith, long);
    made = omega (arith, long, follows.made);
    own = omega (arith, long, made-append 0 before.log (entry ∷ []), made_own 0 entry refl, follows.own);
    front = [];
    served = sym (none_later (length before.log) (length (before.log ++ entry ∷ [])) at.served (omega (arith, long)) follows.old);
    old = up_to_more (length before.log) (length (before.log ++ entry ∷ [])) at.served (omega (arith, long)) follows.old;
  }

follow : (whole : List Entry) (line said : List ℕ) (before after : Progress) (at : Standing) → Follows before at → Longer after.log whole
    → Move line said before after → Follow whole line said at after
follow whole line said before after at follows longer (sole.no_memory is) = record {
  next = at;
  step = step.no_memory is;
  follows = record { edition = follows.edition; made = follows.made; own = follows.own; front = follows.front; served = follows.served; old = follows.old };
}
follow whole line said before after at follows longer (sole.stands_apart is) = record { next = at; step = step.stands_apart is; follows = follows }
follow whole line said before after at follows longer (sole.is_accepted change is room) =
    let k = length before.log in
    let entry = next_entry 0 (length before.log) change in
    let here : entry_at whole (suc (length before.log)) ≡ Some entry =
    ap (λ (l : List Entry). slice_get l (length before.log)) (longer.split ∙ append_assoc before.log (entry ∷ []) longer.rest) ∙ after_front before.log longer.rest entry in
    let place : suc (length before.log) ≡ length before.log + 1 = omega arith in
    record {
      next = makes at (length before.log + 1);
      step = step.is_accepted change (length before.log + 1) is (omega (arith, follows.edition))
          (omega (arith, ap length longer.split, length-append (before.log ++ entry ∷ []) longer.rest, length-append before.log (entry ∷ [])))
          (subst (λ n. entry_at whole n ≡ Some (next_entry 0 at.made change)) place (here ∙ ap (λ n. Some (next_entry 0 n change)) (sym follows.made)));
      follows = made whole line said before at follows (longer_both before.log (before.log ++ entry ∷ []) whole (record { rest = entry ∷ []; split = refl }) longer) change;
    }
follow whole line said before after at follows longer (sole.is_refused is) = record {
  next = sees at (length before.log);
  step = step.is_refused (length before.log)
      (refuses_same before.log whole (length before.log) (length before.log) refl (front whole line said before at follows longer) line said is)
      (from whole line said before at follows longer) (inside whole line said before at follows longer);
  follows = seen whole line said before at follows longer;
}
follow whole line said before after at follows longer (sole.is_answered is) = record {
  next = gets at (length before.log) (served_by whole (length before.log) line);
  step = step.is_answered (length before.log)
      (answers_same before.log whole (length before.log) (length before.log) refl (front whole line said before at follows longer) line said is)
      (from whole line said before at follows longer) (inside whole line said before at follows longer);
  follows = answered whole line said before at follows longer;
}
follow whole line said before after at follows longer (sole.is_counted is) = record {
  next = sees at (length before.log);
  step = step.is_counted (length before.log) (counted whole line said before at follows longer is)
      (from whole line said before at follows longer) (inside whole line said before at follows longer);
  follows = seen whole line said before at follows longer;
}

-- lines take the caller on to where the desk has come to
pub record FollowAll (whole : List Entry) (lines replies : List (List ℕ)) (at : Standing) (end : Progress) : Type 0 where
  pub last : Standing
  pub steps : Steps whole 0 lines replies at last
  pub follows : Follows end last

follow_all : (lines replies : List (List ℕ)) (before end : Progress) (at : Standing) → Moves lines replies before end → Follows before at
    → FollowAll end.log lines replies at end
follow_all [] [] before end at moves follows = record { last = at; steps = refl; follows = subst (λ p. Follows p at) (sym moves) follows }
follow_all [] (said ∷ replies) before end at moves follows = absurd moves
follow_all (line ∷ lines) [] before end at moves follows = absurd moves
follow_all (line ∷ lines) (said ∷ replies) before end at moves follows =
    let one = follow end.log line said before moves.0 at follows (all_grow lines replies moves.0 end moves.2) moves.1 in
    let rest = follow_all lines replies moves.0 end one.next moves.2 one.follows in
    record { last = rest.last; steps = (one.next, one.step, rest.steps); follows = rest.follows }

-- a caller stands where a desk opens
stands_open : (desk : Desk) (whole : List Entry) → made_by 0 desk.log ≡ length desk.log → Longer desk.log whole
    → Follows (opened desk) (stands_at 0 whole (length desk.log))
stands_open desk whole own longer = record {
  edition = refl;
  made = ap (made_by 0) (ap (take (length desk.log)) longer.split ∙ take_at desk.log longer.rest (length desk.log) refl) ∙ own;
  own = own;
  front = desk.ready;
  served = sym (append-nil desk.ready);
  old = tt;
}

transcript_of : (desk : Desk) (lines replies : List (List ℕ)) (end : Progress) → made_by 0 desk.log ≡ length desk.log
    → Moves lines replies (opened desk) end → Transcript 0 end.log (length desk.log) lines replies
transcript_of desk lines replies end own moves =
    let all = follow_all lines replies (opened desk) end (stands_at 0 end.log (length desk.log)) moves
    (stands_open desk end.log own (all_grow lines replies (opened desk) end moves)) in
    record {
      end = all.last;
      steps = all.steps;
      within = omega (arith, all.follows.edition);
      all = all.follows.made ∙ sym all.follows.own;
    }

pub soles_are : SolesAreTranscripts
soles_are desk after lines replies own runs =
    subst (λ (l : List Entry). Transcript 0 l (length desk.log) lines replies) (sym runs.log) (transcript_of desk lines replies runs.end own runs.moves)
