-- One entry changes.
use Rattle.std.proofs.Common.{◌≡◌, ℕ, ◌<◌, true, false, cond, List, [], Some, None, ⊎_elim, ◌⊎◌, refl, ap, ◌∙◌, sym, subst, arith}
use Rattle.std.specs.Prelude.{◌==◌, ◌&&◌, if◌then◌else◌}
use Rattle.std.specs.Ordering.{is_eq, nat_cmp}
use Rattle.std.specs.declared.cmp.Ordering.TheVariants.{Less, Equal, Greater}
use Rattle.std.specs.BTreeMap.{BTreeMap, UpdatesBy, WritesThrough}
use Rattle.std.specs.Option.{is_some}
use Rattle.std.specs.Cmp.{nat_cmp_is}
use Rattle.std.proofs.lemmas.Bool.{cases_eq, eq-eqb, ne_eqb}
use Rattle.mf_flight.specs.declared.slot.Slot.{Slot}
use Rattle.mf_flight.specs.Sheets.{kept, or_fresh, slot_among, slot_at, slot_in, IsSameAt, PutsAt, PutsIn}
use Rattle.mf_flight.specs.Slots.{fresh}

-- two numbers compared are equal exactly where they are the same
same_key : (k q : ℕ) → q ≡ k → is_eq (nat_cmp k q) ≡ true
same_key k q same = ap is_eq (sym (nat_cmp_is k q Equal (sym same)))

other_key : (k q : ℕ) → (q ≡ k → ⊥) → is_eq (nat_cmp k q) ≡ false
other_key k q other = ⊎_elim
    (λ (less : q < k). ap is_eq (sym (nat_cmp_is k q Greater less)))
    (λ (more : k < q). ap is_eq (sym (nat_cmp_is k q Less more)))
    (apart k q other)
  where
    apart : (k q : ℕ) → (q ≡ k → ⊥) → (q < k) ⊎ (k < q)
    apart k q other = grind (arith, other)

pub puts : {P : Type 0} (old new : List (ℕ × Slot P)) (k : ℕ) (slot : Slot P)
    → ((q : ℕ) → kept new q ≡ cond (is_eq (nat_cmp k q)) (Some slot) (kept old q)) → PutsIn old new k slot
puts old new k slot changed i = ⊎_elim
    (λ (same : i ≡ k). ap or_fresh (changed i ∙ ap (λ b. cond b (Some slot) (kept old i)) (same_key k i same))
    ∙ sym (ap (λ b. if b then slot else slot_in old i) (eq-eqb i k same)))
    (λ (other : i ≡ k → ⊥). ap or_fresh (changed i ∙ ap (λ b. cond b (Some slot) (kept old i)) (other_key k i other))
    ∙ sym (ap (λ b. if b then slot else slot_in old i) (ne_eqb i k other)))
    (cases_eq i k)

pub put_here : {P : Type 0} (old new : List (ℕ × Slot P)) (k : ℕ) (slot : Slot P) → PutsIn old new k slot → slot_in new k ≡ slot
put_here old new k slot put = put k ∙ ap (λ b. if b then slot else slot_in old k) (eq-eqb k k refl)

pub put_there : {P : Type 0} (old new : List (ℕ × Slot P)) (k : ℕ) (slot : Slot P) → PutsIn old new k slot
    → (i : ℕ) → (i ≡ k → ⊥) → slot_in new i ≡ slot_in old i
put_there old new k slot put i other = put i ∙ ap (λ b. if b then slot else slot_in old i) (ne_eqb i k other)

-- what is there already may be put there
pub put_same : {P : Type 0} (old : List (ℕ × Slot P)) (k : ℕ) (slot : Slot P) → slot_in old k ≡ slot → PutsIn old old k slot
put_same old k slot is i = ⊎_elim
    (λ (same : i ≡ k). ap (slot_in old) same ∙ is ∙ sym (ap (λ b. if b then slot else slot_in old i) (eq-eqb i k same)))
    (λ (other : i ≡ k → ⊥). sym (ap (λ b. if b then slot else slot_in old i) (ne_eqb i k other)))
    (cases_eq i k)

-- one entry is put into the map
pub updated : {P : Type 0} (old new : BTreeMap ℕ (Slot P)) (k : ℕ) (slot : Slot P)
    → UpdatesBy nat_cmp (nat_cmp k) old new (Some slot) → PutsIn old.entries new.entries k slot
updated old new k slot updates = puts old.entries new.entries k slot updates.0

-- one entry that is there is written over
pub written : {P : Type 0} (old new : BTreeMap ℕ (Slot P)) (k : ℕ) (was slot : Slot P)
    → Some was ≡ kept old.entries k → WritesThrough nat_cmp (nat_cmp k) old slot new → PutsIn old.entries new.entries k slot
written old new k was slot there writes = updated old new k slot (writes.3 (ap is_some (sym there)))

-- an entry that is there is what is kept
pub found : {P : Type 0} (old : List (ℕ × Slot P)) (k : ℕ) (was : Slot P) → Some was ≡ kept old k → slot_in old k ≡ was
found old k was there = ap or_fresh (sym there)

module _ {P : Type 0} where
  -- one entry of an edition is put, whose entries were these
  pub put_sheet : (old new : List (ℕ × List (ℕ × Slot P))) (e i : ℕ) (slot : Slot P) (before after : List (ℕ × Slot P))
      → ((q : ℕ) → kept new q ≡ cond (is_eq (nat_cmp e q)) (Some after) (kept old q))
      → ((j : ℕ) → slot_in before j ≡ slot_at old e j) → PutsIn before after i slot → PutsAt old new e i slot
  put_sheet old new e i slot before after changed were put d j = ⊎_elim
      (λ (same : d ≡ e). ap (λ s. slot_among s j) (changed d ∙ ap (λ b. cond b (Some after) (kept old d)) (same_key e d same))
      ∙ put j ∙ ap (λ s. if j == i then slot else s) (were j ∙ ap (λ x. slot_at old x j) (sym same))
      ∙ sym (ap (λ b. if b && (j == i) then slot else slot_at old d j) (eq-eqb d e same)))
      (λ (other : d ≡ e → ⊥). ap (λ s. slot_among s j) (changed d ∙ ap (λ b. cond b (Some after) (kept old d)) (other_key e d other))
      ∙ sym (ap (λ b. if b && (j == i) then slot else slot_at old d j) (ne_eqb d e other)))
      (cases_eq d e)

  -- the entries of an edition are written over by the same ones
  pub same_sheet : (old new : List (ℕ × List (ℕ × Slot P))) (e : ℕ) (before : List (ℕ × Slot P))
      → ((q : ℕ) → kept new q ≡ cond (is_eq (nat_cmp e q)) (Some before) (kept old q)) → Some before ≡ kept old e → IsSameAt old new
  same_sheet old new e before changed there d j = ⊎_elim
      (λ (same : d ≡ e). ap (λ s. slot_among s j) (changed d ∙ ap (λ b. cond b (Some before) (kept old d)) (same_key e d same) ∙ there ∙ ap (kept old) (sym same)))
      (λ (other : d ≡ e → ⊥). ap (λ s. slot_among s j) (changed d ∙ ap (λ b. cond b (Some before) (kept old d)) (other_key e d other)))
      (cases_eq d e)

  -- nothing is kept of an edition any more
  pub no_sheet : (old new : List (ℕ × List (ℕ × Slot P))) (e : ℕ)
      → ((q : ℕ) → kept new q ≡ cond (is_eq (nat_cmp e q)) None (kept old q))
      → (d i : ℕ) → slot_at new d i ≡ (if d == e then fresh else slot_at old d i)
  no_sheet old new e changed d i = ⊎_elim
      (λ (same : d ≡ e). ap (λ s. slot_among s i) (changed d ∙ ap (λ b. cond b None (kept old d)) (same_key e d same))
      ∙ sym (ap (λ b. if b then fresh else slot_at old d i) (eq-eqb d e same)))
      (λ (other : d ≡ e → ⊥). ap (λ s. slot_among s i) (changed d ∙ ap (λ b. cond b None (kept old d)) (other_key e d other))
      ∙ sym (ap (λ b. if b then fresh else slot_at old d i) (ne_eqb d e other)))
      (cases_eq d e)

  -- what an edition has, where these are its entries
  pub among : (old : List (ℕ × List (ℕ × Slot P))) (e : ℕ) (before : List (ℕ × Slot P)) → Some before ≡ kept old e
      → (j : ℕ) → slot_in before j ≡ slot_at old e j
  among old e before there j = ap (λ s. slot_among s j) there

  -- one entry of an edition that has entries changes
  pub write_sheet : (f : Slot P → Slot P) (old new : BTreeMap ℕ (List (ℕ × Slot P))) (e i : ℕ) (before after : List (ℕ × Slot P))
      → Some before ≡ kept old.entries e → WritesThrough nat_cmp (nat_cmp e) old after new
      → PutsIn before after i (f (slot_in before i)) → PutsAt old.entries new.entries e i (f (slot_at old.entries e i))
  write_sheet f old new e i before after there writes put =
      let were = among old.entries e before there in
      put_sheet old.entries new.entries e i (f (slot_at old.entries e i)) before after (writes.3 (ap is_some (sym there))).0 were
      (subst (λ (s : Slot P). PutsIn before after i (f s)) (were i) put)

  -- none changes
  pub keep_sheet : (old new : BTreeMap ℕ (List (ℕ × Slot P))) (e : ℕ) (before after : List (ℕ × Slot P))
      → Some before ≡ kept old.entries e → WritesThrough nat_cmp (nat_cmp e) old after new → after ≡ before
      → IsSameAt old.entries new.entries
  keep_sheet old new e before after there writes same =
      same_sheet old.entries new.entries e before
      (λ q. (writes.3 (ap is_some (sym there))).0 q ∙ ap (λ s. cond (is_eq (nat_cmp e q)) (Some s) (kept old.entries q)) same) there

  -- the first entry of an edition
  pub first_sheet : (f : Slot P → Slot P) (old new : BTreeMap ℕ (List (ℕ × Slot P))) (e i : ℕ) (before after : List (ℕ × Slot P))
      → kept old.entries e ≡ None → UpdatesBy nat_cmp (nat_cmp e) old new (Some after) → before ≡ []
      → PutsIn before after i (f (slot_in before i)) → PutsAt old.entries new.entries e i (f (slot_at old.entries e i))
  first_sheet f old new e i before after absent updates none put =
      let were : (j : ℕ) → slot_in before j ≡ slot_at old.entries e j =
      λ j. ap (λ (s : List (ℕ × Slot P)). slot_in s j) none ∙ ap (λ s. slot_among s j) (sym absent) in
      put_sheet old.entries new.entries e i (f (slot_at old.entries e i)) before after updates.0 were
      (subst (λ (s : Slot P). PutsIn before after i (f s)) (were i) put)
