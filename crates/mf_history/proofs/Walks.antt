-- Lines of a caller, one after the other.
use Rattle.std.proofs.Common.{◌≡◌, ◌∙◌, ℕ, zero, suc, ◌+◌, ◌-◌, ◌<◌, ◌≤◌, ◌==◌, List, [], ◌∷◌, ◌++◌, length, take, drop, slice_get, if◌then◌else◌, Some, None, refl, ap, sym, subst, arith, encode_utf8_all, append_assoc, length-append}
use Rattle.std.proofs.lemmas.List.{append-nil, take_all}
use Rattle.std.proofs.lemmas.Bool.{eq-eqb, ne_eqb}
use Rattle.mf_edition.specs.Sizes.{used_by, IsWithin}
use Rattle.mf_edition.specs.declared.change.Entry.{Entry}
use Rattle.mf_legal.specs.Calls.{made_by, one_if}
use Rattle.mf_transcript.proofs.Fixed.{replies_fix}
use Rattle.mf_transcript.specs.Lines.{ShowsAtMost}
use Rattle.mf_transcript.specs.Steps.{Standing, Step}
use Rattle.mf_transcript.specs.Transcripts.{stands_at}
use Rattle.mf_history.specs.Places.{Goes, IsPlace, IsStuck, StandsAs}
use Rattle.mf_history.specs.Records.{lines_if, said_by}
use Rattle.mf_history.specs.Verdicts.{FirstUnfit, Fits, Takes}
use Rattle.mf_history.specs.Walks.{IsStart, Stops, Walked}
use Rattle.mf_history.specs.declared.place.Place.{Place}
use Rattle.mf_history.specs.declared.transcript.Exchange.{Exchange}
use Rattle.mf_history.specs.declared.transcript.Transcript.{Transcript}
use Rattle.mf_history.proofs.Counted.{serves_none}
use Rattle.mf_history.proofs.Editions.{front_is}

pub is_place : (log : List Entry) (place : Place) (before : Standing) → StandsAs log place before → IsPlace log place
is_place log place before stands =
    let number = front_is log before.edition place.front stands.within stands.front in
    record { front = number.1; few = omega (arith, number.0, stands.made, stands.few) }

-- Lists of which something is known at an index.
module _ {X : Type 0} where
  pub split_at : (xs : List X) (i : ℕ) (x : X) → slice_get xs i ≡ Some x → xs ≡ take i xs ++ x ∷ drop (i + 1) xs
  split_at [] i x at = absurd (grind arith)
  split_at (first ∷ xs) zero x at = let same : first ≡ x = cc in ap (λ y. y ∷ xs) same
  split_at (first ∷ xs) (suc i) x at = let more : suc (i + 1) ≡ suc i + 1 = omega arith in
      ap (λ l. first ∷ l) (split_at xs i x at) ∙ ap (λ n. first ∷ (take i xs ++ x ∷ drop n (first ∷ xs))) more

  pub take_at : (xs : List X) (i : ℕ) (x : X) → slice_get xs i ≡ Some x → take (i + 1) xs ≡ take i xs ++ x ∷ []
  take_at [] i x at = absurd (grind arith)
  take_at (first ∷ xs) zero x at = let same : first ≡ x = cc in ap (λ y. y ∷ []) same
  take_at (first ∷ xs) (suc i) x at = let more : suc (i + 1) ≡ suc i + 1 = omega arith in
      ap (λ n. take n (first ∷ xs)) (sym more) ∙ ap (λ l. first ∷ l) (take_at xs i x at)

  pub inside_at : (xs : List X) (i : ℕ) (x : X) → slice_get xs i ≡ Some x → i < length xs
  inside_at [] i x at = absurd (grind arith)
  inside_at (first ∷ xs) zero x at = omega arith
  inside_at (first ∷ xs) (suc i) x at = omega (arith, inside_at xs i x at)

  pub length_upto : (xs : List X) (i : ℕ) → i ≤ length xs → length (take i xs) ≡ i
  length_upto xs zero inside = refl
  length_upto [] (suc i) inside = absurd (omega (arith, inside))
  length_upto (first ∷ xs) (suc i) inside = omega (arith, length_upto xs i (omega (arith, inside)))

  pub take_front : (xs ys : List X) (n : ℕ) → n ≡ length xs → take n (xs ++ ys) ≡ xs
  take_front [] ys n is = ap (λ m. take m ys) is
  take_front (x ∷ xs) ys zero is = absurd (omega (arith, is))
  take_front (x ∷ xs) ys (suc n) is = ap (λ l. x ∷ l) (take_front xs ys n (omega (arith, is)))

module _ (most : ℕ) (log : List Entry) (caller : ℕ) where
  pub takes_none : (before : Standing) → Takes most log caller [] before before
  takes_none before = record { steps = refl; quits = tt }

  pub takes_one : (exchange : Exchange) (before after : Standing) → Step log caller exchange.request (encode_utf8_all exchange.reply) before after
      → ShowsAtMost most (encode_utf8_all exchange.reply) → Takes most log caller (exchange ∷ []) before after
  takes_one exchange before after step shows = record { steps = (after, step, refl); quits = (shows, tt) }

  pub takes_follow : (xs ys : List Exchange) (before between after : Standing) → Takes most log caller xs before between → Takes most log caller ys between after
      → Takes most log caller (xs ++ ys) before after
  takes_follow [] ys before between after one other = subst (λ (s : Standing). Takes most log caller ys s after) one.steps other
  takes_follow (x ∷ xs) ys before between after one other =
      let rest = takes_follow xs ys one.steps.0 between after (record { steps = one.steps.2; quits = one.quits.1 }) other in
      record { steps = (one.steps.0, one.steps.1, rest.steps); quits = (one.quits.0, rest.quits) }

  -- lines that are taken in two parts
  pub record Parts (xs ys : List Exchange) (before after : Standing) : Type 0 where
    pub between : Standing
    pub one : Takes most log caller xs before between
    pub other : Takes most log caller ys between after

  pub takes_split : (xs ys : List Exchange) (before after : Standing) → Takes most log caller (xs ++ ys) before after → Parts xs ys before after
  takes_split [] ys before after takes = record { between = before; one = takes_none before; other = takes }
  takes_split (x ∷ xs) ys before after takes =
      let rest = takes_split xs ys takes.steps.0 after (record { steps = takes.steps.2; quits = takes.quits.1 }) in
      record {
        between = rest.between;
        one = record { steps = (takes.steps.0, takes.steps.1, rest.one.steps); quits = (takes.quits.0, rest.one.quits) };
        other = rest.other;
      }

  pub takes_once : IsWithin log (used_by log) → (xs : List Exchange) (before one other : Standing)
      → Takes most log caller xs before one → Takes most log caller xs before other → one ≡ other
  takes_once within [] before one other is is_too = is.steps ∙ sym is_too.steps
  takes_once within (x ∷ xs) before one other is is_too =
      let same = replies_fix log caller x.request (encode_utf8_all x.reply) before is.steps.0 is_too.steps.0 within is.steps.1 is_too.steps.1 in
      takes_once within xs is_too.steps.0 one other
      (subst (λ (s : Standing). Takes most log caller xs s one) same (record { steps = is.steps.2; quits = is.quits.1 }))
      (record { steps = is_too.steps.2; quits = is_too.quits.1 })

  -- one more line
  pub walk_more : (xs : List Exchange) (i : ℕ) (x : Exchange) → slice_get xs i ≡ Some x → (before : Standing) (place next : Place)
      → (walked : Walked most log caller (take i xs) before place) → Goes most log caller x.request (encode_utf8_all x.reply) walked.after next
      → Walked most log caller (take (i + 1) xs) before next
  walk_more xs i x at before place next walked goes = record {
    after = goes.after;
    takes = subst (λ l. Takes most log caller l before goes.after) (sym (take_at xs i x at))
        (takes_follow (take i xs) (x ∷ []) before walked.after goes.after walked.takes (takes_one x walked.after goes.after goes.step goes.quits));
    stands = goes.stands;
  }

  -- The first line that doesn't fit, or an entry that no line claims.
  module _ (within : IsWithin log (used_by log)) where
    abbrev first : Standing
    first = stands_at caller log 0

    -- lines behind which one doesn't fit
    no_more : (front : List Exchange) (x : Exchange) (rest : List Exchange) (between after : Standing) → Takes most log caller front first between
        → IsStuck most log caller x.request (encode_utf8_all x.reply) between → Takes most log caller (front ++ x ∷ rest) first after → ⊥
    no_more front x rest between after takes stuck all =
        let parts = takes_split front (x ∷ rest) first after all in
        let same = takes_once within front first parts.between between parts.one takes in
        stuck parts.other.steps.0
        (subst (λ (s : Standing). Step log caller x.request (encode_utf8_all x.reply) s parts.other.steps.0) same parts.other.steps.1)
        parts.other.quits.0

    pub unfit_here : (front : List Exchange) (x : Exchange) (rest : List Exchange) (between : Standing) → Takes most log caller front first between
        → IsStuck most log caller x.request (encode_utf8_all x.reply) between → (place : ℕ) → place ≡ length front + 1
        → FirstUnfit most log caller (front ++ x ∷ rest) place
    unfit_here front x rest between takes stuck place there = record {
      some = omega (arith, there);
      within = omega (arith, there, length-append front (x ∷ rest));
      front = record {
        after = between;
        takes = subst (λ l. Takes most log caller l first between) (sym (take_front front (x ∷ rest) (place - 1) (omega (arith, there)))) takes;
      };
      unfit = λ inside begins. no_more front x [] between begins.after takes stuck
          (subst (λ l. Takes most log caller l first begins.after) upto begins.takes);
      whole = λ fits. no_more front x rest between fits.transcript.end takes stuck (record { steps = fits.transcript.steps; quits = fits.quits });
    }
      where
        upto : take place (front ++ x ∷ rest) ≡ front ++ x ∷ []
        upto =
            ap (take place) (sym (append_assoc front (x ∷ []) rest))
            ∙ take_front (front ++ x ∷ []) rest place (omega (arith, there, length-append front (x ∷ [])))

    -- all lines fit, and all entries are claimed
    pub all_fit : (whole : List Exchange) (place : Place) (walked : Walked most log caller whole first place) → place.made ≡ made_by caller log → Fits most log caller whole
    all_fit whole place walked made = record {
      transcript = record { end = walked.after; steps = walked.takes.steps; within = walked.stands.within; all = sym walked.stands.made ∙ made };
      quits = walked.takes.quits;
    }

    -- all lines fit, and an entry is claimed by none
    pub one_unclaimed : (whole : List Exchange) (place : Place) (walked : Walked most log caller whole first place) → (place.made ≡ made_by caller log → ⊥)
        → (at : ℕ) → at ≡ length whole + 1 → FirstUnfit most log caller whole at
    one_unclaimed whole place walked other at there = record {
      some = omega (arith, there);
      within = omega (arith, there);
      front = record {
        after = walked.after;
        takes = subst (λ l. Takes most log caller l first walked.after) (sym (take_all (at - 1) whole (omega (arith, there)))) walked.takes;
      };
      unfit = λ inside begins. omega (arith, there, inside);
      whole = λ fits. other (walked.stands.made
          ∙ ap (λ (s : Standing). s.made)
          (takes_once within whole first walked.after fits.transcript.end walked.takes (record { steps = fits.transcript.steps; quits = fits.quits }))
          ∙ fits.transcript.all);
    }

-- A caller's transcripts, one behind the other.
module _ (caller : ℕ) where
  pub said_append : (some more : List Transcript) → said_by caller (some ++ more) ≡ said_by caller some ++ said_by caller more
  said_append [] more = refl
  said_append (transcript ∷ some) more =
      ap (λ l. lines_if caller transcript ++ l) (said_append some more)
      ∙ sym (append_assoc (lines_if caller transcript) (said_by caller some) (said_by caller more))

  pub said_next : (transcripts : List Transcript) (j : ℕ) (transcript : Transcript) → slice_get transcripts j ≡ Some transcript
      → said_by caller (take (j + 1) transcripts) ≡ said_by caller (take j transcripts) ++ lines_if caller transcript
  said_next transcripts j transcript at =
      ap (said_by caller) (take_at transcripts j transcript at)
      ∙ said_append (take j transcripts) (transcript ∷ [])
      ∙ ap (λ l. said_by caller (take j transcripts) ++ l) (append-nil (lines_if caller transcript))

  pub said_split : (transcripts : List Transcript) (j : ℕ) (transcript : Transcript) → slice_get transcripts j ≡ Some transcript
      → said_by caller transcripts ≡ said_by caller (take j transcripts) ++ (lines_if caller transcript ++ said_by caller (drop (j + 1) transcripts))
  said_split transcripts j transcript at =
      ap (said_by caller) (split_at transcripts j transcript at) ∙ said_append (take j transcripts) (transcript ∷ drop (j + 1) transcripts)

-- where every caller stands before its first line
pub starts : (log : List Entry) (caller : ℕ) (place : Place) → IsStart place → StandsAs log place (stands_at caller log 0)
starts log caller place start = record {
  within = omega arith;
  front = λ i. record { edition = start.edition i; used = start.used i };
  made = start.made;
  few = omega arith;
  served = serves_none place.served 0 start.served;
  none = λ k more. refl;
}

-- the entries from one on
pub made_here : (caller : ℕ) (log : List Entry) (k : ℕ) (entry : Entry) → slice_get log k ≡ Some entry
    → made_by caller (drop k log) ≡ one_if (entry.caller == caller) + made_by caller (drop (k + 1) log)
made_here caller [] k entry at = absurd (grind arith)
made_here caller (first ∷ log) zero entry at = let same : first ≡ entry = cc in ap (λ (e : Entry). one_if (e.caller == caller) + made_by caller log) same
made_here caller (first ∷ log) (suc k) entry at = let more : suc (k + 1) ≡ suc k + 1 = omega arith in
    made_here caller log k entry at ∙ ap (λ n. one_if (entry.caller == caller) + made_by caller (drop n (first ∷ log))) more

pub none_from : (log : List Entry) (k : ℕ) → slice_get log k ≡ None → k < length log → ⊥
none_from [] k none inside = omega (arith, inside)
none_from (first ∷ log) zero none inside = cc
none_from (first ∷ log) (suc k) none inside = none_from log k none (omega (arith, inside))

-- A transcript among those of several callers.
module _ (most : ℕ) (log : List Entry) (caller : ℕ) (transcripts : List Transcript) (j : ℕ) (transcript : Transcript) (at : slice_get transcripts j ≡ Some transcript) where
  abbrev before_it : List Exchange
  before_it = said_by caller (take j transcripts)

  abbrev behind_it : List Exchange
  behind_it = said_by caller (drop (j + 1) transcripts)

  own_lines : transcript.caller ≡ caller → lines_if caller transcript ≡ transcript.lines
  own_lines own = ap (λ b. if b then transcript.lines else []) (eq-eqb transcript.caller caller own)

  pub not_own : (transcript.caller ≡ caller → ⊥) → said_by caller (take (j + 1) transcripts) ≡ before_it
  not_own other =
      said_next caller transcripts j transcript at
      ∙ ap (λ b. before_it ++ (if b then transcript.lines else [])) (ne_eqb transcript.caller caller other)
      ∙ append-nil before_it

  pub is_own : transcript.caller ≡ caller → said_by caller (take (j + 1) transcripts) ≡ before_it ++ transcript.lines
  is_own own = said_next caller transcripts j transcript at ∙ ap (λ l. before_it ++ l) (own_lines own)

  -- where nothing of it is the caller's
  pub passes_over : (transcript.caller ≡ caller → ⊥) → (place : Place) (passed : ℕ) → passed ≡ length before_it → Walked most log caller before_it (stands_at caller log 0) place
      → (passed ≡ length (said_by caller (take (j + 1) transcripts))) × Walked most log caller (said_by caller (take (j + 1) transcripts)) (stands_at caller log 0) place
  passes_over other place passed count walked =
      subst (λ l. (passed ≡ length l) × Walked most log caller l (stands_at caller log 0) place) (sym (not_own other)) (count, walked)

  -- where all lines of it fit
  pub passes_on : transcript.caller ≡ caller → (place next : Place) (passed more : ℕ) → passed ≡ length before_it → more ≡ passed + length transcript.lines
      → (walked : Walked most log caller before_it (stands_at caller log 0) place) → Walked most log caller transcript.lines walked.after next
      → (more ≡ length (said_by caller (take (j + 1) transcripts))) × Walked most log caller (said_by caller (take (j + 1) transcripts)) (stands_at caller log 0) next
  passes_on own place next passed more count adds walked further =
      subst (λ l. (more ≡ length l) × Walked most log caller l (stands_at caller log 0) next) (sym (is_own own)) (
        omega (arith, count, adds, length-append before_it transcript.lines),
        record {
          after = further.after;
          takes = takes_follow most log caller before_it transcript.lines (stands_at caller log 0) walked.after further.after walked.takes further.takes;
          stands = further.stands;
        },
      )

  -- where a line of it doesn't fit
  pub stops_in : IsWithin log (used_by log) → transcript.caller ≡ caller → (place : Place) (walked : Walked most log caller before_it (stands_at caller log 0) place)
      → (passed more : ℕ) → passed ≡ length before_it → Stops most log caller transcript.lines walked.after more → (unfit : ℕ) → unfit ≡ passed + more + 1
      → FirstUnfit most log caller (said_by caller transcripts) unfit
  stops_in within own place walked passed more count stops unfit there =
      subst (λ l. FirstUnfit most log caller l unfit) (sym whole)
      (unfit_here most log caller within (before_it ++ take more transcript.lines) stops.next (drop (more + 1) transcript.lines ++ behind_it) stops.between
      (takes_follow most log caller before_it (take more transcript.lines) (stands_at caller log 0) walked.after stops.between walked.takes stops.takes)
      stops.stuck unfit
      (omega (
        arith,
        there,
        count,
        length-append before_it (take more transcript.lines),
        length_upto transcript.lines more (omega (arith, inside_at transcript.lines more stops.next stops.there)),
      )))
    where
      whole : said_by caller transcripts ≡ (before_it ++ take more transcript.lines) ++ stops.next ∷ (drop (more + 1) transcript.lines ++ behind_it)
      whole =
          said_split caller transcripts j transcript at
          ∙ ap (λ l. before_it ++ (l ++ behind_it)) (own_lines own ∙ split_at transcript.lines more stops.next stops.there)
          ∙ ap (λ l. before_it ++ l) (append_assoc (take more transcript.lines) (stops.next ∷ drop (more + 1) transcript.lines) behind_it)
          ∙ sym (append_assoc before_it (take more transcript.lines) (stops.next ∷ (drop (more + 1) transcript.lines ++ behind_it)))
