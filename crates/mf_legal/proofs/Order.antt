-- The history of calls is in the order of its editions, each caller's calls in their own order.
use Rattle.std.proofs.Common.{◌≡◌, ◌∙◌, ℕ, zero, suc, ◌*◌, ◌<◌, ◌≤◌, Bool, true, false, List, [], ◌∷◌, ◌++◌, length, ⊎_elim, refl, ap, sym, subst, arith, append_assoc}
use Rattle.std.specs.Prelude.{◌==◌, ◌&&◌, not}
use Rattle.std.specs.List.{filter, AllByRecursion}
use Rattle.std.proofs.lemmas.Bool.{cases_eq, eq-eqb, ne_eqb}
use Rattle.mf_edition.specs.declared.change.Entry.{Entry}
use Rattle.mf_legal.specs.Calls.{Sort, publication, look, apart, Call, calls_of, is_of, Service}
use Rattle.mf_legal.specs.Transcripts.{made_after, Fits}
use Rattle.mf_legal.specs.Histories.{is_publication, round, rounds}
use Rattle.mf_legal.proofs.Exact.{Completes, exact}
use Rattle.mf_legal.proofs.Keys.{Ascends, ascends_is, at_key, by_key, by_key_ascends, filter-by_key}

-- where a call of a sort stands in the history: publications of an edition stand before the other calls at it
abbrev pub place : ℕ → Sort → ℕ
place edition (publication change) = 2 * edition
place edition look = suc (2 * edition)
place edition apart = suc (2 * edition)

abbrev pub place_of : {Line Reply : Type 0} → Call Line Reply → ℕ
place_of call = place call.edition call.sort

and_true : (b : Bool) → (b && true) ≡ b
and_true true = refl
and_true false = refl

and_false : (b : Bool) → (b && false) ≡ false
and_false true = refl
and_false false = refl

same_even : (m k : ℕ) → (m == k) ≡ (2 * m == 2 * k)
same_even m k = ⊎_elim
    (λ own. eq-eqb m k own ∙ sym (eq-eqb (2 * m) (2 * k) (omega (arith, own))))
    (λ other. ne_eqb m k other ∙ sym (ne_eqb (2 * m) (2 * k) (λ same. other (omega (arith, same))))) (cases_eq m k)

same_odd : (m k : ℕ) → (m == k) ≡ (suc (2 * m) == suc (2 * k))
same_odd m k = ⊎_elim
    (λ own. eq-eqb m k own ∙ sym (eq-eqb (suc (2 * m)) (suc (2 * k)) (omega (arith, own))))
    (λ other. ne_eqb m k other ∙ sym (ne_eqb (suc (2 * m)) (suc (2 * k)) (λ same. other (omega (arith, same))))) (cases_eq m k)

-- the tests of a round are tests of places
publishes : (m k : ℕ) (sort : Sort) → ((m == k) && is_publication sort) ≡ (place m sort == 2 * k)
publishes m k (publication change) = and_true (m == k) ∙ same_even m k
publishes m k look = and_false (m == k) ∙ sym (ne_eqb (suc (2 * m)) (2 * k) (λ same. omega (arith, same)))
publishes m k apart = and_false (m == k) ∙ sym (ne_eqb (suc (2 * m)) (2 * k) (λ same. omega (arith, same)))

stands : (m k : ℕ) (sort : Sort) → ((m == k) && not (is_publication sort)) ≡ (place m sort == suc (2 * k))
stands m k (publication change) = and_false (m == k) ∙ sym (ne_eqb (2 * m) (suc (2 * k)) (λ same. omega (arith, same)))
stands m k look = and_true (m == k) ∙ same_odd m k
stands m k apart = and_true (m == k) ∙ same_odd m k

module _ {Line Reply : Type 0} where
  round_is : (calls : List (Call Line Reply)) (k : ℕ) → round calls k ≡ at_key place_of (2 * k) calls ++ at_key place_of (suc (2 * k)) calls
  round_is calls k = (λ i. filter (λ call. publishes call.edition k call.sort i) calls ++ filter (λ call. stands call.edition k call.sort i) calls)

  -- rounds are calls place by place
  rounds_are : (calls : List (Call Line Reply)) (n : ℕ) → rounds calls n ≡ by_key place_of calls (2 * n)
  rounds_are calls zero = refl
  rounds_are calls (suc k) =
      let next : suc (suc (2 * k)) ≡ 2 * suc k = omega arith in
      (λ i. rounds_are calls k i ++ round_is calls k i)
      ∙ sym (append_assoc (by_key place_of calls (2 * k)) (at_key place_of (2 * k) calls) (at_key place_of (suc (2 * k)) calls))
      ∙ ap (by_key place_of calls) next

  pub rounds_ascend : (calls : List (Call Line Reply)) (n : ℕ) → Ascends place_of 0 (rounds calls n)
  rounds_ascend calls n = subst (λ l. Ascends place_of 0 l) (sym (rounds_are calls n)) (by_key_ascends place_of calls (2 * n))

  -- a caller's calls of the rounds are the rounds of its calls
  pub calls_of-rounds : (caller : ℕ) (calls : List (Call Line Reply)) (n : ℕ) → calls_of caller (rounds calls n) ≡ rounds (calls_of caller calls) n
  calls_of-rounds caller calls n =
      ap (calls_of caller) (rounds_are calls n) ∙ filter-by_key place_of (is_of caller) calls (2 * n) ∙ sym (rounds_are (calls_of caller calls) n)

module _ {Line Reply : Type 0} (service : Service Line Reply) (log : List Entry) (caller : ℕ) where
  -- calls that lead to the end ascend, and none stands beyond the log
  ascend : (earlier : List (Call Line Reply)) (seen made : ℕ) (calls : List (Call Line Reply)) → Completes service log caller earlier seen made calls
      → (low : ℕ) → low ≤ suc (2 * seen) → Ascends place_of low calls
  ascend earlier seen made [] leads low less = tt
  ascend earlier seen made (call ∷ calls) leads low less = (
    first call.sort leads.1,
    ascend (earlier ++ call ∷ []) call.edition (made_after made call.sort) calls leads.2 (place_of call) (most call.sort),
  )
    where
      first : (sort : Sort) → Fits service log caller earlier seen made call sort → low ≤ place call.edition sort
      first (publication change) fits = omega (arith, less, fits.1)
      first look fits = omega (arith, less, fits.1)
      first apart fits = omega (arith, less, fits.1)

      most : (sort : Sort) → place call.edition sort ≤ suc (2 * call.edition)
      most (publication change) = omega arith
      most look = omega arith
      most apart = omega arith

  inside : (earlier : List (Call Line Reply)) (seen made : ℕ) (calls : List (Call Line Reply)) → Completes service log caller earlier seen made calls
      → AllByRecursion (λ call. place_of call < 2 * suc (length log)) calls
  inside earlier seen made [] leads = tt
  inside earlier seen made (call ∷ calls) leads = (
    by call.sort (exact service log caller (earlier ++ call ∷ []) call.edition (made_after made call.sort) calls leads.2).1,
    inside (earlier ++ call ∷ []) call.edition (made_after made call.sort) calls leads.2,
  )
    where
      by : (sort : Sort) → call.edition ≤ length log → place call.edition sort < 2 * suc (length log)
      by (publication change) within = omega (arith, within)
      by look within = omega (arith, within)
      by apart within = omega (arith, within)

  -- so they are their own rounds
  pub rounds_of_own : (earlier : List (Call Line Reply)) (seen made : ℕ) (calls : List (Call Line Reply)) → Completes service log caller earlier seen made calls
      → rounds calls (suc (length log)) ≡ calls
  rounds_of_own earlier seen made calls leads =
      rounds_are calls (suc (length log))
      ∙ ascends_is place_of (2 * suc (length log)) calls 0 (ascend earlier seen made calls leads 0 (omega arith)) (inside earlier seen made calls leads)
