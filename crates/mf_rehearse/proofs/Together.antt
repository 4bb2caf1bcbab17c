-- The callers of a rehearsal, each of which has sent its requests and left, make one legal history with the log at the end.
use Rattle.std.proofs.Common.{◌≡◌, ◌∙◌, ◌⊎◌, inl, inr, ℕ, zero, suc, ◌+◌, ◌<◌, ◌≤◌, ◌==◌, max, Bool, true, false, List, [], ◌∷◌, ◌++◌, length, map, Option, Some, refl, ap, sym, subst, arith, if◌then◌else◌}
use Rattle.std.proofs.lemmas.Bool.{cases_lt, eq-eqb, ne_eqb}
use Rattle.std.proofs.lemmas.Bool.Decides.{nat_tests}
use Rattle.std.specs.List.{AllByRecursion}
use Rattle.mf_edition.specs.declared.change.Entry.{Entry}
use Rattle.mf_flight.proofs.Sums.{moved}
use Rattle.mf_flight.specs.Sums.{sum_below}
use Rattle.mf_hub.proofs.Accounts.{made_is}
use Rattle.mf_hub.specs.Passes.{Closes, HasMade, Known}
use Rattle.mf_hub.specs.Stores.{caller_of}
use Rattle.mf_legal.specs.Calls.{Exchange}
use Rattle.mf_legal.specs.Histories.{all_forgone, forgone, ShowAtMost}
use Rattle.mf_transcript.proofs.Legal.{lines_are_legal, lines_stay}
use Rattle.mf_transcript.specs.Lines.{exchanges_of, line_service, IsLegal}
use Rattle.mf_transcript.specs.Transcripts.{stands_at, Steps, Transcript}
use Rattle.mf_transcript.specs.Steps.{Standing}
use Rattle.mf_turn.proofs.Lists.{one_if-same, starts_through}
use Rattle.mf_turn.proofs.Numbers.{entries_by-append}
use Rattle.mf_turn.specs.Account.{entries_by}
use Rattle.mf_turn.specs.Rule.{ended_caller, numbers}
use Rattle.mf_turn.specs.Sums.{listed, once_below, times, total, Each}
use Rattle.mf_turn.specs.Sums.{one_if as once_if}
use Rattle.mf_turn.specs.declared.view.Ended.{Ended}
use Rattle.mf_rehearse.specs.Played.{ended_of, number_of, replies_of, Part, PlaysInto}
use Rattle.mf_rehearse.specs.Scripts as scripts
use Rattle.mf_rehearse.specs.Scripts.{callers_in, greatest, is_named, requests_of}

-- ---- whose lines there are

-- a caller's number is from 1 to 8
named_some : (line : List ℕ) → 1 ≤ scripts.caller_of line
named_some line = by (is_named line) refl
  where
    named : (line : List ℕ) → is_named line ≡ true → 1 ≤ scripts.digit_of line
    named [] is = cc
    named (digit ∷ []) is = cc
    named (digit ∷ space ∷ rest) is = grind (arith, nat_tests, is)

    by : (b : Bool) → is_named line ≡ b → 1 ≤ (if b then scripts.digit_of line else 1)
    by true is = named line is
    by false is = omega arith

no_requests : (caller : ℕ) (lines : List (List ℕ)) → ((line : List ℕ) → scripts.caller_of line ≡ caller → ⊥) → requests_of caller lines ≡ []
no_requests caller [] none = refl
no_requests caller (line ∷ lines) none =
    let other : (scripts.caller_of line == caller) ≡ false = ne_eqb (scripts.caller_of line) caller (none line) in
    ap (λ (b : Bool). if b then scripts.request_in line ∷ requests_of caller lines else requests_of caller lines) other
    ∙ no_requests caller lines none

-- caller 0 has none
pub no_caller_0 : (lines : List (List ℕ)) → requests_of 0 lines ≡ []
no_caller_0 lines = no_requests 0 lines (λ line is. let h = named_some line in omega (arith, is, h))

greatest_most : (most : ℕ) (lines : List (List ℕ)) → most ≤ greatest most lines
greatest_most most [] = omega arith
greatest_most most (line ∷ lines) =
    let h = greatest_most (max most (scripts.caller_of line)) lines in
    let low : most ≤ max most (scripts.caller_of line) = grind arith in
    omega arith

-- and none has a greater number than the greatest
pub no_greater : (most caller : ℕ) (lines : List (List ℕ)) → greatest most lines < caller → requests_of caller lines ≡ []
no_greater most caller [] less = refl
no_greater most caller (line ∷ lines) less =
    let all = greatest_most (max most (scripts.caller_of line)) lines in
    let low : scripts.caller_of line ≤ max most (scripts.caller_of line) = grind arith in
    let other : (scripts.caller_of line == caller) ≡ false = ne_eqb (scripts.caller_of line) caller (λ same. omega (arith, same, less, all, low)) in
    ap (λ (b : Bool). if b then scripts.request_in line ∷ requests_of caller lines else requests_of caller lines) other
    ∙ no_greater (max most (scripts.caller_of line)) caller lines less

-- ---- each caller once

-- how often a number stands among those of the callers
abbrev numbers_in : List Part → List ℕ
numbers_in parts = map number_of parts

same_numbers : (parts : List Part) → map ended_caller (map ended_of parts) ≡ numbers_in parts
same_numbers [] = refl
same_numbers (part ∷ parts) = ap (λ (ns : List ℕ). part.number ∷ ns) (same_numbers parts)

-- who isn't among them has no replies
no_replies : (parts : List Part) (n : ℕ) → times n (numbers_in parts) ≡ 0 → replies_of parts n ≡ []
no_replies [] n none = refl
no_replies (part ∷ parts) n none = by (part.number == n) none (no_replies parts n)
  where
    by : (b : Bool) → once_if b + times n (numbers_in parts) ≡ 0 → (times n (numbers_in parts) ≡ 0 → replies_of parts n ≡ [])
        → (if b then part.replies else replies_of parts n) ≡ []
    by true is rest = absurd (omega (arith, is))
    by false is rest = rest (omega (arith, is))

-- who is among them
record Among (P : Part → Type 0) (parts : List Part) (n : ℕ) : Type 0 where
  pub part : Part
  pub holds : P part
  pub number : part.number ≡ n
  pub replies : replies_of parts n ≡ part.replies

among : (P : Part → Type 0) (parts : List Part) (n : ℕ) → AllByRecursion P parts → 0 < times n (numbers_in parts) → Among P parts n
among P [] n all some = absurd (omega (arith, some))
among P (part ∷ parts) n all some = by (among P parts n all.1) (part.number == n) refl some
  where
    by : (0 < times n (numbers_in parts) → Among P parts n) → (b : Bool) → (part.number == n) ≡ b → 0 < once_if b + times n (numbers_in parts)
        → Among P (part ∷ parts) n
    by rest true is more = record {
      part = part;
      holds = all.0;
      number = grind (arith, nat_tests, is);
      replies = ap (λ (b : Bool). if b then part.replies else replies_of parts n) is;
    }
    by rest false is more =
        let there = rest (omega (arith, more)) in
        record {
          part = there.part;
          holds = there.holds;
          number = there.number;
          replies = ap (λ (b : Bool). if b then part.replies else replies_of parts n) is ∙ there.replies;
        }

-- where each is there once, it has its own replies
itself : (parts : List Part) → ((c : ℕ) → times c (numbers_in parts) ≤ 1) → AllByRecursion (λ part. replies_of parts part.number ≡ part.replies) parts
itself [] once = tt
itself (first ∷ parts) once = (
  ap (λ (b : Bool). if b then first.replies else replies_of parts first.number) (eq-eqb first.number first.number refl),
  further parts (itself parts (λ c. let h = once c in omega arith)) (apart parts (let h = once first.number in let m = one_if-same first.number in omega arith)),
)
  where
    apart : (some : List Part) → times first.number (numbers_in some) ≡ 0 → AllByRecursion (λ part. (first.number == part.number) ≡ false) some
    apart [] none = tt
    apart (part ∷ some) none = (
      ne_eqb first.number part.number (λ same.
          let here = ap once_if (eq-eqb part.number first.number (sym same)) in omega (arith, here, none)),
      apart some (omega (arith, none)),
    )

    further : (some : List Part) → AllByRecursion (λ part. replies_of parts part.number ≡ part.replies) some
        → AllByRecursion (λ part. (first.number == part.number) ≡ false) some
        → AllByRecursion (λ part. replies_of (first ∷ parts) part.number ≡ part.replies) some
    further [] same other = tt
    further (part ∷ some) same other = (
      ap (λ (b : Bool). if b then first.replies else replies_of parts part.number) other.0 ∙ same.0,
      further some same.1 other.1,
    )

-- ---- sums over the callers

-- the sum over numbers that are below one, each there at most once
sum_distinct : (f : ℕ → ℕ) (xs : List ℕ) (n : ℕ) → ((x : ℕ) → times x xs ≤ 1) → ((x : ℕ) → 0 < times x xs → x < n) → total f xs ≤ sum_below f n
sum_distinct f [] n once below = omega arith
sum_distinct f (x ∷ xs) n once below =
    let g : ℕ → ℕ = λ i. if i == x then 0 else f i in
    let here : (x == x) ≡ true = eq-eqb x x refl in
    let gone : times x xs ≡ 0 = (let h = once x in let m = one_if-same x in omega arith) in
    let less : x < n = below x (let m = one_if-same x in omega arith) in
    let m = moved f g x n less (λ i other. ap (λ (b : Bool). if b then 0 else f i) (ne_eqb i x other)) in
    let zero_there : g x ≡ 0 = ap (λ (b : Bool). if b then 0 else f x) here in
    let rest = sum_distinct g xs n (λ y. let h = once y in omega arith) (λ y more. below y (omega arith)) in
    let same = without f x xs gone in
    omega arith
  where
    without : (f : ℕ → ℕ) (x : ℕ) (xs : List ℕ) → times x xs ≡ 0 → total (λ i. if i == x then 0 else f i) xs ≡ total f xs
    without f x [] none = refl
    without f x (y ∷ ys) none =
        let other : (y == x) ≡ false = apart (y == x) none in
        let rest = without f x ys (omega (arith, none)) in
        let same = ap (λ (b : Bool). if b then 0 else f y) other in
        omega arith
      where
        apart : (b : Bool) → once_if b + times x ys ≡ 0 → b ≡ false
        apart true is = absurd (omega (arith, is))
        apart false is = refl

all_forgone_is : (exchanges : ℕ → List (Exchange (List ℕ) (List ℕ))) (n : ℕ)
    → all_forgone line_service exchanges n ≡ sum_below (λ c. forgone line_service (exchanges c)) n
all_forgone_is exchanges zero = refl
all_forgone_is exchanges (suc n) = let before = all_forgone_is exchanges n in omega arith

-- ---- all of them

shows_more : (few many : ℕ) (exchanges : List (Exchange (List ℕ) (List ℕ))) → few ≤ many → ShowAtMost line_service few exchanges
    → ShowAtMost line_service many exchanges
shows_more few many [] less shows = tt
shows_more few many (e ∷ exchanges) less shows =
    (λ k starts quits is. let h = shows.0 k starts quits is in omega arith, shows_more few many exchanges less shows.1)

same_length : (log : List Entry) (caller : ℕ) (lines replies : List (List ℕ)) (before after : Standing) → Steps log caller lines replies before after
    → length replies ≡ length lines
same_length log caller [] [] before after steps = refl
same_length log caller [] (said ∷ replies) before after steps = absurd steps
same_length log caller (line ∷ lines) [] before after steps = absurd steps
same_length log caller (line ∷ lines) (said ∷ replies) before after steps =
    let h = same_length log caller lines replies steps.0 after steps.2 in omega arith

-- With what the pass that all others left into knows at the end.
module _ (lines : List (List ℕ)) (home : Known) (log : List Entry) (parts : List Part) (own : home.number ≡ Some 0) (nothing : home.made ≡ 0)
    (none_given : home.given ≡ 0) (left : home.ended ≡ map ended_of parts) (many : length parts ≡ callers_in lines)
    (plays : AllByRecursion (PlaysInto lines home.log home.heard) parts) (closes : Closes home log) where
  n : ℕ
  n = callers_in lines

  ended_many : length home.ended ≡ callers_in lines
  ended_many = ap length left ∙ map_length parts ∙ many
    where
      map_length : (parts : List Part) → length (map ended_of parts) ≡ length parts
      map_length [] = refl
      map_length (part ∷ parts) = let h = map_length parts in omega arith

  -- the numbers are 0 and those of the parts
  numbers_are : numbers home ≡ 0 ∷ numbers_in parts
  numbers_are =
      ap (λ (o : Option ℕ). listed o ++ map ended_caller home.ended) own
      ∙ ap (λ (es : List Ended). 0 ∷ map ended_caller es) left ∙ ap (λ (ns : List ℕ). 0 ∷ ns) (same_numbers parts)

  once : (c : ℕ) → once_if (0 == c) + times c (numbers_in parts) ≡ once_below c (callers_in lines + 1)
  once c =
      ap (times c) (sym numbers_are) ∙ closes.callers c ∙ ap (λ (m : ℕ). once_below c (m + 1)) ended_many

  below_once : (c k : ℕ) → c < k → once_below c k ≡ 1
  below_once c k less = grind (arith, nat_tests)

  not_below : (c k : ℕ) → k ≤ c → once_below c k ≡ 0
  not_below c k less = grind (arith, nat_tests)

  first : (0 == 0) ≡ true
  first = eq-eqb 0 0 refl

  not_0 : times 0 (numbers_in parts) ≡ 0
  not_0 = let h = once 0 in let b = below_once 0 (callers_in lines + 1) (omega arith) in let f = ap once_if first in omega arith

  later : (c : ℕ) → callers_in lines < c → times c (numbers_in parts) ≡ 0
  later c less = let h = once c in let b = not_below c (callers_in lines + 1) (omega arith) in omega arith

  at_most_once : (c : ℕ) → times c (numbers_in parts) ≤ 1
  at_most_once c = by (cases_lt c (callers_in lines + 1))
    where
      by : (c < callers_in lines + 1) ⊎ (callers_in lines + 1 ≤ c) → times c (numbers_in parts) ≤ 1
      by (inl less) = let h = once c in let b = below_once c (callers_in lines + 1) less in omega arith
      by (inr more) = let h = once c in let b = not_below c (callers_in lines + 1) more in omega arith

  within : (c : ℕ) → 0 < times c (numbers_in parts) → c < callers_in lines + 1
  within c some = by (cases_lt c (callers_in lines + 1))
    where
      by : (c < callers_in lines + 1) ⊎ (callers_in lines + 1 ≤ c) → c < callers_in lines + 1
      by (inl less) = less
      by (inr more) = absurd (let h = once c in let b = not_below c (callers_in lines + 1) more in omega arith)

  -- a part's entries in the log
  abbrev IsPart : Part → Type 0
  IsPart part = PlaysInto lines home.log home.heard part × HasMade log (ended_of part)

  all_parts : AllByRecursion IsPart parts
  all_parts = both parts plays (subst (Each (HasMade log)) left closes.ended)
    where
      both : (parts : List Part) → AllByRecursion (PlaysInto lines home.log home.heard) parts → Each (HasMade log) (map ended_of parts)
          → AllByRecursion IsPart parts
      both [] plays made = tt
      both (part ∷ parts) plays made = ((plays.0, made.0), both parts plays.1 made.1)

  -- the transcript of one that is there
  part_stays : (part : Part) → IsPart part → Transcript part.number log 0 (requests_of part.number lines) part.replies
  part_stays part is =
      let seen = starts_through log home.log part.log closes.seen is.0.seen in
      let parts = entries_by-append caller_of part.number part.log seen.0 in
      let whole = ap (entries_by caller_of part.number) seen.1 in
      let mine = is.0.plays.made in
      let made = is.1 in
      let none : entries_by caller_of part.number seen.0 ≡ 0 = omega arith in
      subst (λ (l : List Entry). Transcript part.number l 0 (requests_of part.number lines) part.replies) seen.1
      (lines_stay part.log seen.0 part.number 0 (requests_of part.number lines) part.replies (omega arith)
      (made_is part.number seen.0 ∙ none) is.0.plays.transcript)

  -- and of one that made nothing and sent nothing
  nobody : (c : ℕ) → requests_of c lines ≡ [] → replies_of parts c ≡ [] → entries_by caller_of c log ≡ 0
      → Transcript c log 0 (requests_of c lines) (replies_of parts c)
  nobody c no_lines no_said none =
      subst (λ (z : List (List ℕ) × List (List ℕ)). Transcript c log 0 z.0 z.1) (λ i. (sym no_lines i, sym no_said i)) (record {
        end = stands_at c log 0;
        steps = refl;
        within = omega arith;
        all = sym (made_is c log ∙ none);
      })

  -- what is said of each caller
  record Caller (c : ℕ) : Type 0 where
    pub transcript : Transcript c log 0 (requests_of c lines) (replies_of parts c)
    pub quits : ShowAtMost line_service home.heard (exchanges_of (requests_of c lines) (replies_of parts c))
    pub given : (part : Part) → part.number ≡ c → 0 < times c (numbers_in parts) → Unit {0}

  there : (c : ℕ) → 0 < times c (numbers_in parts) → Caller c
  there c some =
      let found = among IsPart parts c all_parts some in
      let part : Part = found.part in
      let same : (part.number ≡ c) × (part.replies ≡ replies_of parts c) = (found.number, sym found.replies) in
      record {
        transcript =
            subst (λ (z : ℕ × List (List ℕ)). Transcript z.0 log 0 (requests_of z.0 lines) z.1) (λ i. (same.0 i, same.1 i))
            (part_stays part found.holds);
        quits =
            subst (λ (z : ℕ × List (List ℕ)). ShowAtMost line_service home.heard (exchanges_of (requests_of z.0 lines) z.1)) (λ i. (same.0 i, same.1 i))
            (shows_more part.heard home.heard (exchanges_of (requests_of part.number lines) part.replies) found.holds.0.told found.holds.0.plays.quits);
        given = λ p is more. tt;
      }

  absent : (c : ℕ) → requests_of c lines ≡ [] → times c (numbers_in parts) ≡ 0 → entries_by caller_of c log ≡ 0 → Caller c
  absent c no_lines out none =
      let said = no_replies parts c out in
      record {
        transcript = nobody c no_lines said none;
        quits =
            subst (λ (z : List (List ℕ) × List (List ℕ)). ShowAtMost line_service home.heard (exchanges_of z.0 z.1))
            (λ i. (sym no_lines i, sym said i)) tt;
        given = λ p is more. tt;
      }

  each : (c : ℕ) → Caller c
  each zero = absent 0 (no_caller_0 lines) not_0 (closes.made 0 own ∙ nothing)
  each (suc c) = by (cases_lt (suc c) (callers_in lines + 1))
    where
      by : (suc c < callers_in lines + 1) ⊎ (callers_in lines + 1 ≤ suc c) → Caller (suc c)
      by (inl less) =
          let h = once (suc c) in
          let b = below_once (suc c) (callers_in lines + 1) less in
          let other : (0 == suc c) ≡ false = ne_eqb 0 (suc c) (λ is. omega (arith, is)) in
          let o = ap once_if other in
          there (suc c) (omega arith)
      by (inr more) =
          absent (suc c) (no_greater 2 (suc c) lines (omega arith)) (later (suc c) (omega arith))
          (closes.strangers (suc c) (let m = ended_many in omega arith))

  -- no more tickets were given back than lines found no memory
  abbrev forgone_by : ℕ → ℕ
  forgone_by c = forgone line_service (exchanges_of (requests_of c lines) (replies_of parts c))

  given_most : total (λ (e : Ended). e.given) home.ended ≤ sum_below forgone_by (callers_in lines + 1)
  given_most =
      let a = ap (total (λ (e : Ended). e.given)) left in
      let b = parts_given parts all_parts (itself parts at_most_once) in
      let c : total forgone_by (numbers_in parts) ≤ sum_below forgone_by (callers_in lines + 1) =
      sum_distinct forgone_by (numbers_in parts) (callers_in lines + 1) at_most_once within in
      omega arith
    where
      parts_given : (some : List Part) → AllByRecursion IsPart some → AllByRecursion (λ part. replies_of parts part.number ≡ part.replies) some
          → total (λ (e : Ended). e.given) (map ended_of some) ≤ total forgone_by (numbers_in some)
      parts_given [] all same = omega arith
      parts_given (part ∷ some) all same =
          let rest = parts_given some all.1 same.1 in
          let here = all.0.0.plays.given in
          let is = ap (λ (r : List (List ℕ)). forgone line_service (exchanges_of (requests_of part.number lines) r)) same.0 in
          omega arith

  pub one_history : IsLegal log (callers_in lines + 1) (λ caller. requests_of caller lines) (replies_of parts)
      × ((caller : ℕ) → length (replies_of parts caller) ≡ length (requests_of caller lines))
  one_history = (
    lines_are_legal log (callers_in lines + 1) (λ caller. requests_of caller lines) (replies_of parts) (λ c. (each c).transcript)
        (λ c from. no_greater 2 c lines (omega (arith, from)))
        (λ c. shows_more home.heard _ (exchanges_of (requests_of c lines) (replies_of parts c)) heard_most (each c).quits),
    λ c. same_length log c (requests_of c lines) (replies_of parts c) (stands_at c log 0) (each c).transcript.end (each c).transcript.steps,
  )
    where
      heard_most : home.heard ≤ all_forgone line_service (λ c. exchanges_of (requests_of c lines) (replies_of parts c)) (callers_in lines + 1)
      heard_most =
          let h = closes.heard in
          let z = none_given in
          let g = given_most in
          let s = all_forgone_is (λ c. exchanges_of (requests_of c lines) (replies_of parts c)) (callers_in lines + 1) in
          omega arith
