-- Calls in the order of their editions, each caller's in its own order, are what the object of one thread answers.
use Rattle.std.proofs.Common.{◌≡◌, ◌∙◌, ℕ, suc, ◌+◌, ◌*◌, ◌<◌, ◌≤◌, List, [], ◌∷◌, ◌++◌, length, Some, ⊎_elim, refl, ap, sym, subst, arith}
use Rattle.std.specs.Prelude.{take}
use Rattle.std.specs.List.{slice_get}
use Rattle.std.proofs.lemmas.Bool.{cases_eq, cases_lt, eq-eqb, ne_eqb}
use Rattle.std.proofs.lemmas.List.{append-nil, length-take-le, take_all}
use Rattle.std.proofs.lemmas.List.Elements.{filter-append}
use Rattle.std.proofs.lemmas.Option.{slice_get_cases}
use Rattle.mf_edition.specs.declared.change.Change.{Change}
use Rattle.mf_edition.specs.declared.change.Entry.{Entry}
use Rattle.mf_legal.specs.Calls.{entry_at, made_by, Sort, publication, look, apart, Call, calls_of, is_of, Service}
use Rattle.mf_legal.specs.Transcripts.{made_after, Fits}
use Rattle.mf_legal.specs.Histories.{Answers, Gives, log_after}
use Rattle.mf_legal.proofs.Counts.{made_more, made_most, made_rises, next_other, next_own, take_next}
use Rattle.mf_legal.proofs.Exact.{Completes, exact}
use Rattle.mf_legal.proofs.Keys.{Ascends, ascends-filter}
use Rattle.mf_legal.proofs.Order.{place, place_of}

module _ {Line Reply : Type 0} where
  pub first_own : (caller : ℕ) (call : Call Line Reply) (calls : List (Call Line Reply)) → call.caller ≡ caller
      → calls_of caller (call ∷ calls) ≡ call ∷ calls_of caller calls
  first_own caller call calls own = rw (eq-eqb call.caller caller own) refl

  pub first_other : (caller : ℕ) (call : Call Line Reply) (calls : List (Call Line Reply)) → (call.caller ≡ caller → ⊥)
      → calls_of caller (call ∷ calls) ≡ calls_of caller calls
  first_other caller call calls other = rw (ne_eqb call.caller caller other) refl

  pub last_own : (caller : ℕ) (before : List (Call Line Reply)) (call : Call Line Reply) → call.caller ≡ caller
      → calls_of caller (before ++ call ∷ []) ≡ calls_of caller before ++ call ∷ []
  last_own caller before call own = filter-append (is_of caller) before (call ∷ []) ∙ ap (λ l. calls_of caller before ++ l) (first_own caller call [] own)

  pub last_other : (caller : ℕ) (before : List (Call Line Reply)) (call : Call Line Reply) → (call.caller ≡ caller → ⊥)
      → calls_of caller (before ++ call ∷ []) ≡ calls_of caller before
  last_other caller before call other =
      filter-append (is_of caller) before (call ∷ []) ∙ ap (λ l. calls_of caller before ++ l) (first_other caller call [] other)
      ∙ append-nil (calls_of caller before)

module _ {Line Reply : Type 0} (service : Service Line Reply) (log : List Entry) where
  -- the calls that a caller has left once the first j entries stand, after its calls before
  pub record Left (j caller : ℕ) (earlier calls : List (Call Line Reply)) : Type 0 where
    pub seen : ℕ
    pub made : ℕ
    pub leads : Completes service log caller earlier seen made calls
    pub level : made ≡ made_by caller (take seen log)
    pub so_far : made ≡ made_by caller (take j log)

  -- where the next entry is a caller's, its calls that are left begin no later than that entry's publication
  publishes_next : (j : ℕ) (entry : Entry) → slice_get log j ≡ Some entry
      → (earlier : List (Call Line Reply)) (seen made : ℕ) (calls : List (Call Line Reply)) → Completes service log entry.caller earlier seen made calls
      → made ≡ made_by entry.caller (take j log) → (low : ℕ) → Ascends place_of low calls → low ≤ 2 * suc j
  publishes_next j entry at earlier seen made [] leads so_far low up =
      absurd (omega (arith, made_rises entry.caller log (suc j) entry at refl j (omega arith), made_most entry.caller log (suc j), leads.1, so_far))
  publishes_next j entry at earlier seen made (call ∷ calls) leads so_far low up =
      by call.sort leads.1 up.0 (exact service log entry.caller (earlier ++ call ∷ []) call.edition (made_after made call.sort) calls leads.2).0
      (λ same. publishes_next j entry at (earlier ++ call ∷ []) call.edition (made_after made call.sort) calls leads.2 (same ∙ so_far) (place_of call) up.1)
    where
      by : (sort : Sort) → Fits service log entry.caller earlier seen made call sort → low ≤ place call.edition sort
          → made_by entry.caller (take call.edition log) ≤ made_after made sort → (made_after made sort ≡ made → place call.edition sort ≤ 2 * suc j)
          → low ≤ 2 * suc j
      by (publication change) fits less most further = ⊎_elim
          (λ beyond. absurd (omega (
            arith,
            most,
            so_far,
            made_rises entry.caller log (suc j) entry at refl j (omega arith),
            made_rises entry.caller log call.edition _ fits.2 refl (suc j) beyond,
          )))
          (λ within. omega (arith, less, within)) (cases_lt (suc j) call.edition)
      by look fits less most further = omega (arith, less, further refl)
      by apart fits less most further = omega (arith, less, further refl)

  -- as long as entries are left, so do the calls that are left
  none_beyond : (j : ℕ) (before calls : List (Call Line Reply)) → ((caller : ℕ) → Left j caller (calls_of caller before) (calls_of caller calls))
      → j < length log → (low : ℕ) → Ascends place_of low calls → low ≤ 2 * suc j
  none_beyond j before calls left more low up = ⊎_elim
      (λ found.
      let entry : Entry = found.0 in
      let mine = left entry.caller in
      publishes_next j entry found.2 (calls_of entry.caller before) mine.seen mine.made (calls_of entry.caller calls) mine.leads mine.so_far low
      (ascends-filter place_of (is_of entry.caller) calls low up))
      (λ past. absurd (omega (arith, past.0, more))) (slice_get_cases log j).1

  -- what is so after the first of the calls that are left
  record Moved (j : ℕ) (before : List (Call Line Reply)) (call : Call Line Reply) (sort : Sort) (calls : List (Call Line Reply)) : Type 0 where
    entries : ℕ
    within : entries ≤ length log
    reached : 2 * entries ≤ place call.edition sort
    gives : Gives service (take j log) before call sort
    grows : log_after (take j log) call.caller sort ≡ take entries log
    left : (caller : ℕ) → Left entries caller (calls_of caller (before ++ call ∷ [])) (calls_of caller calls)

  module _ (j : ℕ) (within : j ≤ length log) (before : List (Call Line Reply)) (call : Call Line Reply) (calls : List (Call Line Reply))
      (left : (caller : ℕ) → Left j caller (calls_of caller before) (calls_of caller (call ∷ calls))) where
    -- what the others have left stays, where they made none of the entries between
    left_after : (entries : ℕ) → Left entries call.caller (calls_of call.caller (before ++ call ∷ [])) (calls_of call.caller calls)
        → ((caller : ℕ) → (call.caller ≡ caller → ⊥) → made_by caller (take j log) ≡ made_by caller (take entries log))
        → (caller : ℕ) → Left entries caller (calls_of caller (before ++ call ∷ [])) (calls_of caller calls)
    left_after entries mine same caller = ⊎_elim
        (λ own. subst (λ c. Left entries c (calls_of c (before ++ call ∷ [])) (calls_of c calls)) own mine)
        (λ other. let theirs = left caller in record {
          seen = theirs.seen;
          made = theirs.made;
          leads = subst (λ l. Completes service log caller l theirs.seen theirs.made (calls_of caller calls)) (sym (last_other caller before call other))
              (subst (λ l. Completes service log caller (calls_of caller before) theirs.seen theirs.made l) (first_other caller call calls other) theirs.leads);
          level = theirs.level;
          so_far = theirs.so_far ∙ same caller other;
        }) (cases_eq call.caller caller)

    mine : Left j call.caller (calls_of call.caller before) (calls_of call.caller (call ∷ calls))
    mine = left call.caller

    -- what the call's caller has left after it
    abbrev Further : Sort → Type 0
    Further sort = Completes service log call.caller (calls_of call.caller (before ++ call ∷ [])) call.edition (made_after mine.made sort) (calls_of call.caller calls)

    -- a call that is no publication stands at the newest edition
    stays : (sort : Sort) → made_after mine.made sort ≡ mine.made → call.edition ≡ j → Further sort
        → (caller : ℕ) → Left j caller (calls_of caller (before ++ call ∷ [])) (calls_of caller calls)
    stays sort same here further = left_after j
        (record {
          seen = call.edition;
          made = made_after mine.made sort;
          leads = further;
          level = same ∙ mine.so_far ∙ ap (λ k. made_by call.caller (take k log)) (sym here);
          so_far = same ∙ mine.so_far;
        }) (λ caller other. refl)

    -- an accepted publication is the next entry
    moves : (change : Change) (entry : Entry) → entry ≡ record { caller = call.caller; nth = mine.made + 1; change = change }
        → service.Accepts call.line change call.edition call.reply → call.edition ≡ suc j → slice_get log j ≡ Some entry → suc j ≤ length log
        → Further (publication change) → Moved j before call (publication change) calls
    moves change entry is accepts here at more further =
        let own : entry.caller ≡ call.caller = ap (λ e. e.caller) is in
        let one_more : mine.made + 1 ≡ made_by call.caller (take (suc j) log) = omega (arith, next_own call.caller log j entry at own, mine.so_far) in
        record {
          entries = suc j;
          within = more;
          reached = omega (arith, here);
          gives = (accepts, omega (arith, here, length-take-le j log within));
          grows = ap (λ n. take j log ++ record { caller = call.caller; nth = n + 1; change = change } ∷ []) (sym mine.so_far)
              ∙ ap (λ e. take j log ++ e ∷ []) (sym is) ∙ sym (take_next log j entry at);
          left = left_after (suc j)
              (record {
                seen = call.edition;
                made = mine.made + 1;
                leads = further;
                level = one_more ∙ ap (λ k. made_by call.caller (take k log)) (sym here);
                so_far = one_more;
              }) (λ caller other. sym (next_other caller log j entry at (λ same. other (sym own ∙ same))));
        }

    -- a publication that is a later entry of its caller's than those that stand is the next one
    is_next : (k : ℕ) (entry : Entry) → entry_at log k ≡ Some entry → entry.caller ≡ call.caller → mine.seen < k → k ≤ length log
        → (j < length log → 2 * k ≤ 2 * suc j) → k ≡ suc j
    is_next k entry at own above inside beyond =
        let later : j < k = ⊎_elim (λ less. less)
        (λ most. absurd (omega (arith, made_rises call.caller log k entry at own mine.seen above, made_more call.caller log k j most, mine.level, mine.so_far)))
        (cases_lt j k) in
        omega (arith, later, beyond (omega (arith, later, inside)))

    -- another call stands at the newest edition
    is_here : j ≤ call.edition → call.edition ≤ length log → (j < length log → suc (2 * call.edition) ≤ 2 * suc j) → call.edition ≡ j
    is_here low inside beyond = ⊎_elim (λ less. absurd (omega (arith, less, beyond (omega (arith, less, inside))))) (λ most. omega (arith, low, most))
        (cases_lt j call.edition)

    at_rest : (sort : Sort) → made_after mine.made sort ≡ mine.made → 2 * j ≤ place call.edition sort → call.edition ≡ j
        → Gives service (take j log) before call sort → log_after (take j log) call.caller sort ≡ take j log → Further sort → Moved j before call sort calls
    at_rest sort same low here gives grows further = record {
      entries = j;
      within = within;
      reached = low;
      gives = gives;
      grows = grows;
      left = stays sort same here further;
    }

    by_sort : (sort : Sort) → Fits service log call.caller (calls_of call.caller before) mine.seen mine.made call sort → Further sort
        → 2 * j ≤ place call.edition sort → call.edition ≤ length log → (j < length log → place call.edition sort ≤ 2 * suc j)
        → Moved j before call sort calls
    by_sort (publication change) fits further low inside beyond =
        let next : call.edition ≡ suc j = is_next call.edition _ fits.2 refl fits.1 inside beyond in
        moves change _ refl fits.0 next (subst (λ k. entry_at log k ≡ Some (record { caller = call.caller; nth = mine.made + 1; change = change })) next fits.2)
        (omega (arith, next, inside)) further
    by_sort look fits further low inside beyond =
        let here : call.edition ≡ j = is_here (omega (arith, low)) inside beyond in
        at_rest look refl low here
        (subst (λ k. service.Looks (take k log) (calls_of call.caller before) call.line call.reply) here fits.0, here ∙ sym (length-take-le j log within))
        refl further
    by_sort apart fits further low inside beyond =
        let here : call.edition ≡ j = is_here (omega (arith, low)) inside beyond in
        at_rest apart refl low here (fits.0, here ∙ sym (length-take-le j log within)) refl further

    moved : (low : ℕ) → 2 * j ≤ low → Ascends place_of low (call ∷ calls) → Moved j before call call.sort calls
    moved low less up =
        let leads : Completes service log call.caller (calls_of call.caller before) mine.seen mine.made (call ∷ calls_of call.caller calls) =
        subst (λ l. Completes service log call.caller (calls_of call.caller before) mine.seen mine.made l) (first_own call.caller call calls refl) mine.leads in
        by_sort call.sort leads.1
        (subst (λ l. Completes service log call.caller l call.edition (made_after mine.made call.sort) (calls_of call.caller calls))
        (sym (last_own call.caller before call refl)) leads.2)
        (omega (arith, less, up.0))
        (exact service log call.caller (calls_of call.caller before ++ call ∷ []) call.edition (made_after mine.made call.sort) (calls_of call.caller calls) leads.2).1
        (λ more. none_beyond j before (call ∷ calls) left more (place_of call) (omega arith, up.1))

  -- the object that holds the first j entries gives every call that is left its reply, and holds the whole log at the end
  pub answers : (calls before : List (Call Line Reply)) (j low : ℕ) → j ≤ length log → 2 * j ≤ low → Ascends place_of low calls
      → ((caller : ℕ) → Left j caller (calls_of caller before) (calls_of caller calls)) → Answers service (take j log) before calls log
  answers [] before j low within less up left = ⊎_elim
      (λ more. absurd (let far = none_beyond j before [] left more (2 * j + 3) tt in omega (arith, far)))
      (λ all. take_all j log all) (cases_lt j (length log))
  answers (call ∷ calls) before j low within less up left =
      let m : Moved j before call call.sort calls = moved j within before call calls left low less up in (
        m.gives,
        subst (λ l. Answers service l (before ++ call ∷ []) calls log) (sym m.grows)
            (answers calls (before ++ call ∷ []) m.entries (place_of call) m.within m.reached up.1 m.left),
      )
