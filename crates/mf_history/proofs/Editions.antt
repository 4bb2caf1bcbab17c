-- Editions of a log, one after the other.
use Rattle.std.proofs.Common.{◌≡◌, ◌∙◌, ◌⊎◌, inl, inr, ℕ, zero, suc, ◌+◌, ◌<◌, ◌≤◌, ◌^◌, List, [], ◌∷◌, ◌++◌, length, take, slice_get, Bor, Option, Some, refl, ap, sym, subst, arith}
use Rattle.std.specs.Option.{option_copied}
use Rattle.std.proofs.lemmas.Bool.{cases_eq}
use Rattle.mf_edition.proofs.EditionLaws.{numbered}
use Rattle.mf_edition.proofs.Growth.{length-after, length-changed}
use Rattle.mf_edition.proofs.Sized.{longer, used_push}
use Rattle.mf_edition.specs.Edition.{edition_after, edition_of, empty_edition, message_count, next_edition, EditionState, HasRoom}
use Rattle.mf_edition.specs.Sizes.{messages_by, size_of, used_by, IsWithin}
use Rattle.mf_edition.specs.declared.change.Entry.{Entry}
use Rattle.mf_legal.proofs.Counts.{take_next}
use Rattle.mf_history.specs.Places.{front_of, IsFront}
use Rattle.mf_history.specs.declared.front.Front.{Front}

messages_front : (log : List Entry) (k : ℕ) (entry : Entry) → slice_get log k ≡ Some entry → messages_by (take k log) + message_count entry.change ≤ messages_by log
messages_front [] k entry at = absurd (grind arith)
messages_front (first ∷ log) zero entry at = let same : first ≡ entry = cc in omega (arith, ap (λ (e : Entry). message_count e.change) same)
messages_front (first ∷ log) (suc k) entry at = let rest = messages_front log k entry at in omega arith

used_front : (log : List Entry) (k : ℕ) (entry : Entry) → slice_get log k ≡ Some entry → used_by (take k log) + size_of entry.change ≤ used_by log
used_front [] k entry at = absurd (grind arith)
used_front (first ∷ log) zero entry at = let same : first ≡ entry = cc in omega (arith, ap (λ (e : Entry). size_of e.change) same)
used_front (first ∷ log) (suc k) entry at = let rest = used_front log k entry at in omega arith

follows : (edition : EditionState) (log : List Entry) (entry : Entry) → edition_after edition (log ++ entry ∷ []) ≡ next_edition (edition_after edition log) entry.change
follows edition [] entry = refl
follows edition (first ∷ log) entry = follows (next_edition edition first.change) log entry

-- an entry that was looked up
pub entry_found : (log : List Entry) (i k : ℕ) (found : Option (Bor Entry)) (entry : Bor Entry) → option_copied found ≡ slice_get log i → found ≡ Some entry → i ≡ k
    → slice_get log k ≡ Some entry.now
entry_found log i k found entry copied is same = ap (slice_get log) (sym same) ∙ sym copied ∙ ap option_copied is

module _ (log : List Entry) (k : ℕ) (entry : Entry) (at : slice_get log k ≡ Some entry) where
  pub next_front : take (k + 1) log ≡ take k log ++ entry ∷ []
  next_front = let more : suc k ≡ k + 1 = omega arith in subst (λ n. take n log ≡ take k log ++ entry ∷ []) more (take_next log k entry at)

  pub next_is : edition_of log (k + 1) ≡ next_edition (edition_of log k) entry.change
  next_is = ap (edition_after empty_edition) next_front ∙ follows empty_edition (take k log) entry

  pub used_next : used_by (take (k + 1) log) ≡ used_by (take k log) + size_of entry.change
  used_next = ap used_by next_front ∙ used_push (take k log) entry

  -- the edition has room for the entry's change
  pub has_room : IsWithin log (used_by log) → k < length log → HasRoom (edition_of log k) entry.change
  has_room within inside =
      let messages = messages_front log k entry at in
      let now = length-after empty_edition (take k log) in
      let then = length-changed (edition_of log k).items entry.change in
      let number = numbered log k (omega (arith, inside)) in
      record {
        items = omega (arith, messages, now, then, within.counted, within.small);
        number = omega (arith, number, inside, within.few);
      }

  -- and the bytes are counted in 64 bits
  pub used_fits : IsWithin log (used_by log) → used_by (take k log) + size_of entry.change < 2 ^ 64
  used_fits within = omega (arith, used_front log k entry at, within.small)

  -- what the next edition is
  pub front_next : (edition : EditionState) (used : ℕ) → edition ≡ next_edition (edition_of log k) entry.change → used ≡ used_by (take k log) + size_of entry.change
      → record { edition = edition; used = used } ≡ front_of log (k + 1)
  front_next edition used is counts = λ i. record { edition = (is ∙ sym next_is) i; used = (counts ∙ sym used_next) i }

-- it is edition k that the log has
pub front_is : (log : List Entry) (k : ℕ) (front : Front) → k ≤ length log → front ≡ front_of log k → (front.edition.number ≡ k) × IsFront log front
front_is log k front inside is =
    let number : front.edition.number ≡ k = ap (λ (f : Front). f.edition.number) is ∙ numbered log k inside in
    (number, record { within = omega (arith, number, inside); is = is ∙ ap (front_of log) (sym number) })

-- the edition with so many bytes isn't passed
pub not_passed : (log : List Entry) (front : Front) (used k : ℕ) → IsFront log front → front.used < used → front.edition.number ≤ k → used_by (take k log) ≡ used
    → front.edition.number + 1 ≤ k
not_passed log front used k is less from same = by (cases_eq front.edition.number k)
  where
    by : (front.edition.number ≡ k) ⊎ (front.edition.number ≡ k → ⊥) → front.edition.number + 1 ≤ k
    by (inl here) = absurd (omega (arith, less, same, ap (λ (f : Front). f.used) is.is, ap (λ n. used_by (take n log)) here))
    by (inr apart) = omega (arith, from, apart)

-- an edition before it has fewer bytes
pub not_before : (log : List Entry) (front : Front) (used k : ℕ) → IsFront log front → front.edition.number ≤ k → k ≤ length log → used_by (take k log) ≡ used
    → (front.used < used → front.edition.number < length log → ⊥) → front.edition.number ≡ k
not_before log front used k is from within same stopped = by (cases_eq front.edition.number k)
  where
    by : (front.edition.number ≡ k) ⊎ (front.edition.number ≡ k → ⊥) → front.edition.number ≡ k
    by (inl here) = here
    by (inr apart) =
        let below : front.edition.number < k = omega (arith, from, apart) in
        absurd (stopped
        (omega (arith, longer log front.edition.number k below within, same, ap (λ (f : Front). f.used) is.is))
        (omega (arith, below, within)))
