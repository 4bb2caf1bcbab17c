-- A transcript that leads to all entries of its caller passes none of them over, so that it counts them.
use Rattle.std.proofs.Common.{◌≡◌, ◌⊎◌, inl, inr, ℕ, ◌+◌, ◌<◌, ◌≤◌, List, [], ◌∷◌, length, take, Option, Some, refl, ap, subst, arith}
use Rattle.std.proofs.lemmas.Bool.{cases_lt}
use Rattle.mf_edition.specs.declared.change.Entry.{Entry}
use Rattle.mf_legal.proofs.Counts.{made_more, made_most, made_rises}
use Rattle.mf_legal.specs.Calls.{entry_at, made_by}
use Rattle.mf_transcript.specs.Laws.{CountsNumberEntries}
use Rattle.mf_transcript.specs.Steps.{no_memory, stands_apart, is_accepted, is_refused, is_answered, is_counted, next_entry, Standing, Step}
use Rattle.mf_transcript.specs.Transcripts.{stands_at, Steps}

same_entry : (one other : Entry) (found : Option Entry) → found ≡ Some one → found ≡ Some other → one ≡ other
same_entry one other found is is_too = cc

module _ (log : List Entry) (caller : ℕ) where
  -- the caller has no more entries up to the edition that it has seen than it has made, and that edition is one of the log
  IsExact : Standing → Type 0
  IsExact before = (made_by caller (take before.edition log) ≤ before.made) × (before.edition ≤ length log)

  exact_step : (line said : List ℕ) (before after : Standing) → Step log caller line said before after → IsExact after → IsExact before
  unfolding IsExact
  exact_step line said before after (no_memory is) exact = exact
  exact_step line said before after (stands_apart is) exact = exact
  exact_step line said before after (is_accepted change k is above inside entry) exact =
      (omega (arith, exact.0, made_rises caller log k _ entry refl before.edition above), omega (arith, above, inside))
  exact_step line said before after (is_refused k is from inside) exact =
      (omega (arith, exact.0, made_more caller log before.edition k from), omega (arith, from, inside))
  exact_step line said before after (is_answered k is from inside) exact =
      (omega (arith, exact.0, made_more caller log before.edition k from), omega (arith, from, inside))
  exact_step line said before after (is_counted k is from inside) exact =
      (omega (arith, exact.0, made_more caller log before.edition k from), omega (arith, from, inside))

  module _ (end : Standing) (within : end.edition ≤ length log) (all : end.made ≡ made_by caller log) where
    exact : (lines replies : List (List ℕ)) (before : Standing) → Steps log caller lines replies before end → IsExact before
    unfolding IsExact
    exact [] [] before steps =
        subst (λ s. (made_by caller (take s.edition log) ≤ s.made) × (s.edition ≤ length log)) steps
        (omega (arith, made_most caller log end.edition, all), within)
    exact [] (reply ∷ replies) before steps = absurd steps
    exact (line ∷ lines) [] before steps = absurd steps
    exact (line ∷ lines) (reply ∷ replies) before steps = exact_step line reply before steps.0 steps.1 (exact lines replies steps.0 steps.2)

    -- the number of an entry is how many its caller has up to it
    IsNumbered : ℕ → Entry → Type 0
    IsNumbered k entry = entry.nth ≡ made_by caller (take k log)

    module _ (k : ℕ) (entry : Entry) (at : entry_at log k ≡ Some entry) (own : entry.caller ≡ caller) where
      -- no entry of the caller's stands between two editions up to which it has as many
      none_between : (seen j : ℕ) → seen < k → k ≤ j → made_by caller (take j log) ≤ made_by caller (take seen log) → ⊥
      none_between seen j less most same =
          omega (arith, made_rises caller log k entry at own seen less, made_more caller log k j most, same)

      numbered_step : (line said : List ℕ) (before after : Standing) → Step log caller line said before after → IsExact after
          → made_by caller (take before.edition log) ≡ before.made → before.edition < k
          → (made_by caller (take after.edition log) ≡ after.made → after.edition < k → IsNumbered k entry) → IsNumbered k entry
      unfolding IsExact IsNumbered
      numbered_step line said before after (no_memory is) exact made less further = further made less
      numbered_step line said before after (stands_apart is) exact made less further = further made less
      numbered_step line said before after (is_accepted change j is above inside next) exact made less further = by (cases_lt j k) (cases_lt k j)
        where
          rises : made_by caller (take j log) ≡ before.made + 1
          rises = omega (arith, exact.0, made, made_rises caller log j _ next refl before.edition above)

          by : (j < k) ⊎ (k ≤ j) → (k < j) ⊎ (j ≤ k) → entry.nth ≡ made_by caller (take k log)
          by (inl later) other = further rises later
          by (inr most) (inl earlier) =
              absurd (omega (arith, rises, made, made_rises caller log k entry at own before.edition less, made_rises caller log j _ next refl k earlier))
          by (inr most) (inr least) =
              let here : j ≡ k = omega (arith, most, least) in
              let is_next = same_entry entry (next_entry caller before.made change) (entry_at log k) at (subst (λ n. entry_at log n ≡ Some (next_entry caller before.made change)) here next) in
              omega (arith, ap (λ (e : Entry). e.nth) is_next, rises, ap (λ n. made_by caller (take n log)) here)
      numbered_step line said before after (is_refused j is from inside) exact made less further = by (cases_lt j k)
        where
          by : (j < k) ⊎ (k ≤ j) → entry.nth ≡ made_by caller (take k log)
          by (inl later) = further (omega (arith, exact.0, made, made_more caller log before.edition j from)) later
          by (inr most) = absurd (none_between before.edition j less most (omega (arith, exact.0, made)))
      numbered_step line said before after (is_answered j is from inside) exact made less further = by (cases_lt j k)
        where
          by : (j < k) ⊎ (k ≤ j) → entry.nth ≡ made_by caller (take k log)
          by (inl later) = further (omega (arith, exact.0, made, made_more caller log before.edition j from)) later
          by (inr most) = absurd (none_between before.edition j less most (omega (arith, exact.0, made)))
      numbered_step line said before after (is_counted j is from inside) exact made less further = by (cases_lt j k)
        where
          by : (j < k) ⊎ (k ≤ j) → entry.nth ≡ made_by caller (take k log)
          by (inl later) = further (omega (arith, exact.0, made, made_more caller log before.edition j from)) later
          by (inr most) = absurd (none_between before.edition j less most (omega (arith, exact.0, made)))

      numbered : (lines replies : List (List ℕ)) (before : Standing) → Steps log caller lines replies before end
          → made_by caller (take before.edition log) ≡ before.made → before.edition < k → IsNumbered k entry
      numbered [] [] before steps made less =
          absurd (omega (arith, made, all, ap (λ (s : Standing). s.made) steps, made_rises caller log k entry at own before.edition less, made_most caller log k))
      numbered [] (reply ∷ replies) before steps made less = absurd steps
      numbered (line ∷ lines) [] before steps made less = absurd steps
      numbered (line ∷ lines) (reply ∷ replies) before steps made less =
          numbered_step line reply before steps.0 steps.1 (exact lines replies steps.0 steps.2) made less
          (λ rises later. numbered lines replies steps.0 steps.2 rises later)

pub counts_number : CountsNumberEntries
unfolding IsNumbered
counts_number log caller from k lines replies entry transcript less at own =
    numbered log caller transcript.end transcript.within transcript.all k entry at own lines replies (stands_at caller log from) transcript.steps refl less
