-- How many callers haven't left, and what the log has where all have.
use Rattle.std.proofs.Common.{◌≡◌, ◌∙◌, ◌⊎◌, ⊎_elim, eqb, ℕ, suc, ◌+◌, ◌<◌, ◌≤◌, List, [], ◌∷◌, ◌++◌, length, map, Bool, true, false, Option, Some, None, refl, ap, sym, subst, arith}
use Rattle.std.specs.Prelude.{◌==◌, ◌&&◌, not}
use Rattle.std.proofs.lemmas.Bool.Decides.{nat_tests}
use Rattle.mf_edition.specs.declared.change.Entry.{Entry}
use Rattle.mf_flight.specs.Sums.{sum_below}
use Rattle.mf_flight.proofs.Sums.{same_below}
use Rattle.mf_legal.specs.Calls.{one_if}
use Rattle.mf_turn.specs.declared.view.Ended.{Ended}
use Rattle.mf_turn.specs.Account.{Account}
use Rattle.mf_turn.specs.Acts.{caught_up}
use Rattle.mf_turn.specs.Rule.{ended_caller, numbers, HasEnded}
use Rattle.mf_turn.specs.Sums.{listed, once_below, times, Each}
use Rattle.mf_turn.specs.Sums.{one_if as once_if}
use Rattle.mf_turn.specs.Taught.{Teaches}
use Rattle.mf_turn.proofs.Lists.{Each-map}
use Rattle.mf_hub.specs.Passes.{AreLive, Closes, HasMade, Known}
use Rattle.mf_hub.specs.Stores.{caller_of, nth_of}
use Rattle.mf_hub.proofs.Sums.{once_there, sum-plus, sum_most, sum_none, sum_ones, sum_times}

-- who has left isn't joined
gone : (x : Account Entry) (es : List Ended) (m : ℕ) → Each (HasEnded caller_of x.log x None) es → 0 < times m (map ended_caller es)
    → x.present m ≡ true → ⊥
gone x [] m each has here = omega arith
gone x (e ∷ es) m each has here = ⊎_elim
    (λ (is : e.caller ≡ m). let none_some : None ≡ Some e.caller = each.0.1 (ap x.present is ∙ here) in no_some e.caller none_some)
    (λ (other : 0 < times m (map ended_caller es)). gone x es m each.1 other here)
    (first e.caller has)
  where
    no_some : (n : ℕ) → None ≡ Some n → ⊥
    no_some n e = cc

    first : (n : ℕ) → 0 < once_if (eqb n m) + times m (map ended_caller es) → (n ≡ m) ⊎ (0 < times m (map ended_caller es))
    first n has = grind (arith, nat_tests)

module _ (x : Account Entry) (v : Known) (n : ℕ) (t : Teaches caller_of nth_of x v) (own : v.number ≡ Some n) (free : v.leaving ≡ None) where
  has_ended : Each (HasEnded caller_of x.log x None) v.ended
  has_ended = subst (λ (o : Option ℕ). Each (HasEnded caller_of x.log x o) v.ended) free t.ended

  numbers_are : (m : ℕ) → times m (numbers v) ≡ once_if (eqb n m) + times m (map ended_caller v.ended)
  numbers_are m = ap (λ (o : Option ℕ). times m (listed_with o)) own
    where
      listed_with : Option ℕ → List ℕ
      listed_with o = numbers (record v { number = o })

  abbrev pub others : ℕ → ℕ
  others m = one_if (not (m == n) && x.present m)

  -- each number is that of the caller, of one that has left, or of one that hasn't, or none of them
  at_most_one : (m : ℕ) → others m + times m (numbers v) ≤ 1
  at_most_one m = by_present (x.present m) refl
    where
      by_present : (b : Bool) → x.present m ≡ b → others m + times m (numbers v) ≤ 1
      by_present false is = let h = t.once m in let z : others m ≡ 0 = ap (λ b. one_if (not (m == n) && b)) is ∙ off (m == n) in omega arith
        where
          off : (b : Bool) → one_if (not b && false) ≡ 0
          off true = refl
          off false = refl
      by_present true is =
          let h = numbers_are m in
          let none_left = gone x v.ended m has_ended in
          let z : others m ≡ one_if (not (m == n)) = ap (λ b. one_if (not (m == n) && b)) is ∙ on (m == n) in
          let flip = one_or_other n m in
          ⊎_elim
          (λ (some : 0 < times m (map ended_caller v.ended)). absurd (none_left some is))
          (λ (nothing : times m (map ended_caller v.ended) ≡ 0). omega arith)
          (positive (times m (map ended_caller v.ended)))
        where
          on : (b : Bool) → one_if (not b && true) ≡ one_if (not b)
          on true = refl
          on false = refl

          one_or_other : (n m : ℕ) → one_if (not (m == n)) + once_if (eqb n m) ≡ 1
          one_or_other n m = grind (arith, nat_tests)

          positive : (k : ℕ) → (0 < k) ⊎ (k ≡ 0)
          positive k = grind arith

  length_numbers : length (numbers v) ≡ length v.ended + 1
  length_numbers = long v.number own
    where
      many : (es : List Ended) → length (map ended_caller es) ≡ length es
      many [] = refl
      many (e ∷ es) = ap suc (many es)

      long : (o : Option ℕ) → o ≡ Some n → length (listed o ++ map ended_caller v.ended) ≡ length v.ended + 1
      long o is = let h = ap (λ (o : Option ℕ). length (listed o ++ map ended_caller v.ended)) is in let m = many v.ended in omega arith

  -- so many haven't left
  pub live : (k : ℕ) → k ≡ sum_below others x.joined → 0 < k → AreLive (caught_up v x) k
  live k is some =
      let plus = sum-plus others (λ m. times m (numbers v)) x.joined in
      let left = sum_times (numbers v) x.joined t.below in
      let most = sum_most (λ m. others m + times m (numbers v)) x.joined (λ m l. at_most_one m) in
      let long = length_numbers in
      record { some = some; most = omega arith }

  -- all others have left
  module _ (beyond : (m : ℕ) → x.joined ≤ m → x.present m ≡ false) (none_live : sum_below others x.joined ≡ 0) where
    only : (m : ℕ) → x.present m ≡ true → v.number ≡ Some m
    only m here = own ∙ ap Some (sym (by_same (m == n) refl))
      where
        within : (b : ℕ) → (m < b) ⊎ (b ≤ m)
        within b = grind arith

        same : (m k : ℕ) → (m == k) ≡ true → m ≡ k
        same m k e = grind (arith, nat_tests)

        no_both : (b : Bool) → b ≡ true → b ≡ false → ⊥
        no_both b a c = cc

        by_same : (b : Bool) → (m == n) ≡ b → m ≡ n
        by_same true e = same m n e
        by_same false e = ⊎_elim
            (λ (l : m < x.joined).
            let z = sum_none others x.joined m none_live l in
            let o : others m ≡ 1 = ap (λ b. one_if (not b && x.present m)) e ∙ ap one_if here in
            absurd (omega arith))
            (λ (l : x.joined ≤ m). absurd (no_both (x.present m) here (beyond m l)))
            (within x.joined)

    joined_all : x.joined ≡ length v.ended + 1
    joined_all =
        let s = t.settles only in
        let each = same_below (λ m. once_below m x.joined) (λ m. times m (numbers v)) x.joined (λ m l. s.each_once m) in
        let ones = sum_ones (λ m. once_below m x.joined) x.joined (λ m l. once_there m x.joined l) in
        let left = sum_times (numbers v) x.joined t.below in
        let long = length_numbers in
        omega arith

    pub closes : Closes v x.log
    closes = let s = t.settles only in record {
      seen = t.seen;
      callers = λ m. s.each_once m ∙ ap (once_below m) joined_all;
      made = t.made;
      ended = Each-map (HasEnded caller_of x.log x v.leaving) (HasMade x.log) v.ended (λ e has. has.0) t.ended;
      strangers = λ m l. t.strangers m (let j = joined_all in omega arith);
      heard = s.heard;
    }
