-- The totals of a sheet after one entry has changed.
use Rattle.std.proofs.Common.{◌≡◌, ℕ, ◌+◌, ◌-◌, ◌<◌, ◌≤◌, ◌^◌, true, false, List, ⊎_elim, ap, ◌∙◌, sym, subst, arith}
use Rattle.std.proofs.lemmas.Bool.{cases_eq}
use Rattle.std.proofs.lemmas.Bool.Decides.{nat_tests}
use Rattle.std.specs.Prelude.{nat_lt}
use Rattle.mf_flight.specs.declared.slot.Slot.{Slot}
use Rattle.mf_flight.specs.declared.slot.State.{State}
use Rattle.mf_flight.specs.declared.slot.State.TheVariants.{Idle, Claimed, Ready}
use Rattle.mf_flight.specs.Slots.{most_quits, quit, starts_of, taken}
use Rattle.mf_flight.specs.Sheets.{slot_in, IsCounted, PutsIn}
use Rattle.mf_flight.proofs.Puts.{put_here, put_there}
use Rattle.mf_flight.proofs.Sums.{sum_fits, sum_has, sum_moved}

pub counted : {P : Type 0} (old new : List (ℕ × Slot P)) (k : ℕ) (slot : Slot P) (starts quits starts' quits' : ℕ)
    → k < 2 ^ 32 → PutsIn old new k slot → slot.quits ≤ most_quits
    → starts' + starts_of (slot_in old k) ≡ starts + starts_of slot → quits' + (slot_in old k).quits ≡ quits + slot.quits
    → IsCounted old starts quits → IsCounted new starts' quits'
counted {P} old new k slot starts quits starts' quits' fits put few started given_back was =
    let here : slot_in new k ≡ slot = put_here old new k slot put in
    let there = put_there old new k slot put in
    record {
      small = λ i. ⊎_elim
          (λ (same : i ≡ k). subst (λ (s : Slot P). s.quits ≤ most_quits) (sym (ap (slot_in new) same ∙ here)) few)
          (λ (other : i ≡ k → ⊥). subst (λ (s : Slot P). s.quits ≤ most_quits) (sym (there i other)) (was.small i)) (cases_eq i k);
      started = sum_moved (λ i. starts_of (slot_in old i)) (λ i. starts_of (slot_in new i)) k starts starts' fits
          (λ i other. ap (λ (s : Slot P). starts_of s) (there i other)) (started ∙ ap (λ (s : Slot P). starts + starts_of s) (sym here)) was.started;
      given_back = sum_moved (λ i. (slot_in old i).quits) (λ i. (slot_in new i).quits) k quits quits' fits
          (λ i other. ap (λ (s : Slot P). s.quits) (there i other)) (given_back ∙ ap (λ (s : Slot P). quits + s.quits) (sym here)) was.given_back;
    }

pub taken_le : {P : Type 0} (state : State P) → taken state ≤ 1
taken_le Idle = omega arith
taken_le Claimed = omega arith
taken_le (Ready plan) = omega arith

pub starts_fit : {P : Type 0} (entries : List (ℕ × Slot P)) (starts quits : ℕ) → IsCounted entries starts quits → starts + 1 < 2 ^ 64
starts_fit entries starts quits was = sum_fits (λ i. starts_of (slot_in entries i)) starts
    (λ i. let a = was.small i in let b = taken_le (slot_in entries i).state in omega arith) was.started

pub quits_fit : {P : Type 0} (entries : List (ℕ × Slot P)) (starts quits : ℕ) → IsCounted entries starts quits → quits + 1 < 2 ^ 64
quits_fit entries starts quits was =
    sum_fits (λ i. (slot_in entries i).quits) quits (λ i. let a = was.small i in omega arith) was.given_back

pub starts_have : {P : Type 0} (entries : List (ℕ × Slot P)) (starts quits k : ℕ) → IsCounted entries starts quits
    → starts_of (slot_in entries k) ≤ starts
starts_have entries starts quits k was = sum_has (λ i. starts_of (slot_in entries i)) k starts was.started

below : (a b : ℕ) → nat_lt a b ≡ true → a < b
below a b test = grind (arith, nat_tests)

not_below : (a b : ℕ) → nat_lt a b ≡ false → b ≤ a
not_below a b test = grind (arith, nat_tests)

pub asked_counted : {P : Type 0} (old new : List (ℕ × Slot P)) (k few starts quits : ℕ) → k < 2 ^ 32
    → slot_in old k ≡ record { state = Idle; quits = few } → PutsIn old new k (record { state = Claimed; quits = few })
    → IsCounted old starts quits → IsCounted new (starts + 1) quits
asked_counted {P} old new k few starts quits fits idle put was =
    let same : (slot_in old k).quits ≡ few = ap (λ (s : Slot P). s.quits) idle in
    let none : starts_of (slot_in old k) ≡ few + 0 = ap (λ (s : Slot P). starts_of s) idle in
    let small = was.small k in
    counted old new k (record { state = Claimed; quits = few }) starts quits (starts + 1) quits fits put
    (omega arith) (omega arith) (omega arith) was

one_claimed : {P : Type 0} (slot : Slot P) → slot.state ≡ Claimed → starts_of slot ≡ slot.quits + 1
one_claimed slot claimed = ap (λ s. slot.quits + taken s) claimed

pub quit_counted : {P : Type 0} (old new : List (ℕ × Slot P)) (k starts quits : ℕ) → k < 2 ^ 32
    → (slot_in old k).state ≡ Claimed → nat_lt (slot_in old k).quits most_quits ≡ true → PutsIn old new k (quit (slot_in old k))
    → IsCounted old starts quits → IsCounted new starts (quits + 1)
quit_counted old new k starts quits fits claimed test put was =
    let one = one_claimed (slot_in old k) claimed in let few = below _ _ test in
    counted old new k (quit (slot_in old k)) starts quits starts (quits + 1) fits put (omega arith) (omega arith) (omega arith) was

pub quit_counted_full : {P : Type 0} (old new : List (ℕ × Slot P)) (k starts quits : ℕ) → k < 2 ^ 32
    → (slot_in old k).state ≡ Claimed → nat_lt (slot_in old k).quits most_quits ≡ false → PutsIn old new k (quit (slot_in old k))
    → IsCounted old starts quits → IsCounted new (starts - 1) quits
quit_counted_full old new k starts quits fits claimed test put was =
    let one = one_claimed (slot_in old k) claimed in let many = not_below _ _ test in let small = was.small k in
    let has = starts_have old starts quits k was in
    counted old new k (quit (slot_in old k)) starts quits (starts - 1) quits fits put (omega arith) (omega arith) (omega arith) was

pub quit_has : {P : Type 0} (old : List (ℕ × Slot P)) (k starts quits : ℕ) → (slot_in old k).state ≡ Claimed
    → IsCounted old starts quits → 1 ≤ starts
quit_has old k starts quits claimed was =
    let one = one_claimed (slot_in old k) claimed in let has = starts_have old starts quits k was in omega arith
