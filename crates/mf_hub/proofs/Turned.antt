-- What a pass is after a turn, and after a look at the count.
use Rattle.std.proofs.Common.{◌≡◌, ◌∙◌, ℕ, ◌+◌, ◌≤◌, List, [], ◌∷◌, ◌++◌, length, length-append, Option, Some, None, true, inl, refl, ap, sym, subst, arith}
use Rattle.std.specs.Arc.{arc_value}
use Rattle.std.specs.Option.{ForSome}
use Rattle.std.specs.declared.alloc.Global.{Global}
use Rattle.std.specs.declared.sync.Arc.{Arc}
use Rattle.mf_edition.specs.Edition.{newest_edition, next_edition, EditionState}
use Rattle.mf_edition.specs.Sizes.{most_entries}
use Rattle.mf_edition.specs.declared.change.Change.{Change}
use Rattle.mf_edition.specs.declared.change.Entry.{Entry}
use Rattle.mf_transcript.specs.Steps.{next_entry}
use Rattle.mf_turn.specs.declared.act.Act.{Act}
use Rattle.mf_turn.specs.declared.act.Act.TheVariants as act
use Rattle.mf_turn.specs.Account.{entries_by, Account, IsAlike, Publishes}
use Rattle.mf_turn.specs.Acts.{after, caught_up, joined_with, with_raised, Fixes, MayFix}
use Rattle.mf_turn.specs.Standing.{Standing}
use Rattle.mf_turn.specs.Sums.{StartsWith}
use Rattle.mf_turn.specs.Taught.{Counted, Teaches}
use Rattle.mf_turn.proofs.Lists.{one_if-same, starts_itself, starts_through}
use Rattle.mf_turn.proofs.Numbers.{entries_by-append}
use Rattle.mf_hub.specs.Held.{HoldsPinned, IsPass}
use Rattle.mf_hub.specs.Passes.{Grows, Known}
use Rattle.mf_hub.specs.Stores.{account_of, caller_of, nth_of, world_of, IsMade, IsTurn, Stands, Stored}
use Rattle.mf_hub.proofs.Accounts.{alike}
use Rattle.mf_hub.proofs.Growing.{grows}

-- what is held stays held by who has seen more
pub holds_still : (pinned : Option (Arc EditionState Global)) (v u : Known) → StartsWith u.log v.log → u.pin ≡ v.pin → HoldsPinned pinned v → HoldsPinned pinned u
holds_still None v u more same held = same ∙ held
holds_still (Some edition) v u more same held = (held.0, starts_through u.log v.log held.0 more held.1, same ∙ held.2, held.3)

-- the newest edition of all that is seen is held
pub holds_newest : (edition : Arc EditionState Global) (u : Known) → u.pin ≡ Some (length u.log) → arc_value edition ≡ newest_edition u.log → HoldsPinned (Some edition) u
holds_newest edition u pin is = (u.log, starts_itself u.log, pin, is)

-- who holds nothing has no pin, and who holds something has one
pub unheld : (pinned : Option (Arc EditionState Global)) (v : Known) → HoldsPinned pinned v → pinned ≡ None → v.pin ≡ None
unheld None v held none = held
unheld (Some edition) v held none = cc

module _ (w u : Standing Stored Entry) (x : Stored) (a : Act) (taken : w.taken ≡ Some x) (ended : ForSome w.taken (λ z. u.view ≡ after a (account_of z) w.view)) where
  -- the view after a turn that ended by an act
  pub after_end : u.view ≡ after a (account_of x) w.view
  after_end = ended x taken

module _ (seat w : Standing Stored Entry) (x : Stored) (t : Teaches caller_of nth_of (account_of x) seat.view) (taken : w.taken ≡ Some x) (caught : w.view ≡ caught_up seat.view (account_of x)) where
  pub quiet : w.view.raised ≡ None
  quiet = ap (λ (v : Known). v.raised) caught ∙ t.quiet

  -- a turn may end in which nothing changed
  pub may_same : (y : Stored) → Stands x y → (z : Stored) × (w.taken ≡ Some z) × ((w.view.raised ≡ None) × IsAlike (account_of z) (account_of y))
  may_same y same = (x, taken, (quiet, alike x y same))

  pub core_same : (y : Stored) → Stands x y → (z : Stored) × (w.taken ≡ Some z) × IsTurn z y
  core_same y same = (x, taken, inl same.0)

  -- and the view then
  pub view_same : (u : Standing Stored Entry) → ForSome w.taken (λ z. u.view ≡ after act.Same (account_of z) w.view) → u.view ≡ caught_up seat.view (account_of x)
  view_same u ended = after_end w u x act.Same taken ended ∙ caught

  pub grows_same : (u : Standing Stored Entry) → ForSome w.taken (λ z. u.view ≡ after act.Same (account_of z) w.view) → Grows seat.view u.view
  grows_same u ended = subst (Grows seat.view) (sym (view_same u ended)) (grows (account_of x) seat.view t seat.view.pin)

  pub seen_same : (u : Standing Stored Entry) (seen : ℕ) → ForSome w.taken (λ z. u.view ≡ after act.Same (account_of z) w.view)
      → seen ≡ length (world_of x).log → seen ≡ length u.view.log
  seen_same u seen ended is = is ∙ sym (ap (λ (v : Known). length v.log) (view_same u ended))

  module _ (number : ℕ) (pinned : Option (Arc EditionState Global)) (is : IsPass seat number pinned) where
    pub pass_same : (u : Standing Stored Entry) → u.taken ≡ None → ForSome w.taken (λ z. u.view ≡ after act.Same (account_of z) w.view) → IsPass u number pinned
    pass_same u free ended = let same = view_same u ended in record {
      free = free;
      number_is = ap (λ (v : Known). v.number) same ∙ is.number_is;
      told = ap (λ (v : Known). v.told) same;
      quiet = ap (λ (v : Known). v.raised) same ∙ is.quiet;
      leaving = ap (λ (v : Known). v.leaving) same ∙ is.leaving;
      claim = ap (λ (v : Known). v.claim) same ∙ is.claim;
      made = subst (λ (v : Known). entries_by caller_of number v.log ≡ v.made) (sym same) (t.made number is.number_is);
      pin = subst (HoldsPinned pinned) (sym same) (holds_still pinned seat.view (caught_up seat.view (account_of x)) t.seen refl is.pin);
    }

    -- after a turn by which another pin came
    pub pass_pinned : (u : Standing Stored Entry) (pin : Option ℕ) (held : Option (Arc EditionState Global)) → u.taken ≡ None
        → u.view ≡ record (caught_up seat.view (account_of x)) { pin = pin } → HoldsPinned held (record (caught_up seat.view (account_of x)) { pin = pin })
        → IsPass u number held
    pass_pinned u pin held free same holds = record {
      free = free;
      number_is = ap (λ (v : Known). v.number) same ∙ is.number_is;
      told = ap (λ (v : Known). v.told) same;
      quiet = ap (λ (v : Known). v.raised) same ∙ is.quiet;
      leaving = ap (λ (v : Known). v.leaving) same ∙ is.leaving;
      claim = ap (λ (v : Known). v.claim) same ∙ is.claim;
      made = subst (λ (v : Known). entries_by caller_of number v.log ≡ v.made) (sym same) (t.made number is.number_is);
      pin = subst (HoldsPinned held) (sym same) holds;
    }

    -- the caller is joined, without a claim, and knows its pin
    pub joined : ((world_of x).caller number).joined ≡ true
    joined = t.present number is.number_is

    pub free : ((world_of x).caller number).claim ≡ None
    free = t.claim number is.number_is ∙ is.claim

    pub numbered : w.view.number ≡ Some number
    numbered = ap (λ (v : Known). v.number) caught ∙ is.number_is

    pub unclaimed : w.view.claim ≡ None
    unclaimed = ap (λ (v : Known). v.claim) caught ∙ is.claim

    module _ (y : Stored) (change : Change)
        (p : Publishes (next_entry number (entries_by caller_of number (world_of x).log) change) (account_of x) (account_of y)) where
      pub made_is : entries_by caller_of number (world_of x).log ≡ seat.view.made
      made_is = t.made number is.number_is

      pub may_fix : length (world_of x).log ≤ most_entries → (z : Stored) × (w.taken ≡ Some z) × MayFix caller_of nth_of (account_of z) (account_of y) w.view
      may_fix few = (
        x,
        taken,
        record {
          entry = next_entry number (entries_by caller_of number (world_of x).log) change;
          quiet = quiet;
          log = p.log;
          own = numbered;
          next = ap (λ (n : ℕ). n + 1) (made_is ∙ sym (ap (λ (v : Known). v.made) caught));
          few = omega (arith, few);
        },
      )

      -- the place of that entry is fixed
      pub raised_is : (v : Known) → ForSome w.taken (λ z. Fixes (account_of z) (account_of y) w.view v)
          → v ≡ with_raised (caught_up seat.view (account_of x)) (next_entry number (entries_by caller_of number (world_of x).log) change)
      raised_is v fixes =
          let f = fixes x taken in
          let e = next_entry number (entries_by caller_of number (world_of x).log) change in
          f.2 ∙ ap (with_raised w.view) (snoc-injective (world_of x).log f.0 e (sym f.1 ∙ p.log)) ∙ ap (λ (u : Known). with_raised u e) caught
        where
          snoc-injective : (xs : List Entry) (a b : Entry) → xs ++ a ∷ [] ≡ xs ++ b ∷ [] → a ≡ b
          snoc-injective [] a b e = cc
          snoc-injective (x ∷ xs) a b e = let rest : xs ++ a ∷ [] ≡ xs ++ b ∷ [] = cc in snoc-injective xs a b rest

      pub pass_published : (u : Standing Stored Entry) → u.taken ≡ None
          → u.view ≡ after act.Publish (account_of x) (with_raised (caught_up seat.view (account_of x)) (next_entry number (entries_by caller_of number (world_of x).log) change))
          → IsPass u number pinned
      pass_published u free same =
          let e = next_entry number (entries_by caller_of number (world_of x).log) change in
          let v : Known = after act.Publish (account_of x) (with_raised (caught_up seat.view (account_of x)) e) in
          record {
            free = free;
            number_is = ap (λ (v : Known). v.number) same ∙ is.number_is;
            told = ap (λ (v : Known). v.told) same;
            quiet = ap (λ (v : Known). v.raised) same;
            leaving = ap (λ (v : Known). v.leaving) same ∙ is.leaving;
            claim = ap (λ (v : Known). v.claim) same ∙ is.claim;
            made = subst (λ (v : Known). entries_by caller_of number v.log ≡ v.made) (sym same) one_more;
            pin = subst (HoldsPinned pinned) (sym same)
                (holds_still pinned seat.view v (starts_through v.log (world_of x).log seat.view.log (e ∷ [], refl) t.seen) refl is.pin);
          }
        where
          one_more : entries_by caller_of number ((world_of x).log ++ next_entry number (entries_by caller_of number (world_of x).log) change ∷ [])
              ≡ seat.view.made + 1
          one_more =
              let e = next_entry number (entries_by caller_of number (world_of x).log) change in
              let a = entries_by-append caller_of number (world_of x).log (e ∷ []) in
              let b = one_if-same number in
              let c = t.made number is.number_is in
              omega arith

  -- an edition that was made when less had been seen, or as much
  pub made_still : (change : Change) (edition : EditionState) → edition ≡ next_edition (newest_edition seat.view.log) change
      → (newest_edition seat.view.log).number ≡ length seat.view.log → IsMade (world_of x).log change edition
  made_still change edition is long number =
      let same : seat.view.log ≡ (world_of x).log = all (t.seen.0) seat.view.log (world_of x).log t.seen.1
      (let a = ap (λ (e : EditionState). e.number) is in let b : edition.number ≡ (newest_edition seat.view.log).number + 1 = a in omega (arith, b, long, number)) in
      is ∙ ap (λ (log : List Entry). next_edition (newest_edition log) change) same
    where
      all : (rest front log : List Entry) → front ++ rest ≡ log → length log ≡ length front → front ≡ log
      all [] front log is long = sym (nil front) ∙ is
        where
          nil : (l : List Entry) → l ++ [] ≡ l
          nil [] = refl
          nil (y ∷ l) = ap (λ m. y ∷ m) (nil l)
      all (r ∷ rest) front log is long = let a = length-append front (r ∷ rest) in let b = ap length is in absurd (omega arith)

-- a pass that looked at the count
pub pass_counted : (seat u : Standing Stored Entry) (number count : ℕ) (pinned : Option (Arc EditionState Global)) → IsPass seat number pinned → u.taken ≡ None
    → Counted caller_of count seat.view u.view → IsPass u number pinned
pass_counted seat u number count pinned is free c = record {
  free = free;
  number_is = ap (λ (v : Known). v.number) c.kept ∙ is.number_is;
  told = ap (λ (v : Known). v.told) c.kept;
  quiet = ap (λ (v : Known). v.raised) c.kept ∙ is.quiet;
  leaving = ap (λ (v : Known). v.leaving) c.kept ∙ is.leaving;
  claim = ap (λ (v : Known). v.claim) c.kept ∙ is.claim;
  made = c.made number is.number_is ∙ sym (ap (λ (v : Known). v.made) c.kept);
  pin = holds_still pinned seat.view u.view c.seen (ap (λ (v : Known). v.pin) c.kept) is.pin;
}

module _ (seat u : Standing Stored Entry) (number : ℕ) (pinned : Option (Arc EditionState Global)) (is : IsPass seat number pinned) (left : Known) where
  -- one that took in what another knew, which has no number, and looked at the count
  pub pass_learnt : (count : ℕ) → left.number ≡ None → u.taken ≡ None → Counted caller_of count (joined_with seat.view left) u.view → IsPass u number pinned
  pass_learnt count none free c = record {
    free = free;
    number_is = ap (λ (v : Known). v.number) c.kept ∙ is.number_is;
    told = ap (λ (v : Known). v.told) c.kept;
    quiet = ap (λ (v : Known). v.raised) c.kept ∙ is.quiet;
    leaving = ap (λ (v : Known). v.leaving) c.kept ∙ none;
    claim = ap (λ (v : Known). v.claim) c.kept ∙ is.claim;
    made = c.made number is.number_is ∙ sym (ap (λ (v : Known). v.made) c.kept);
    pin = holds_still pinned seat.view u.view c.seen (ap (λ (v : Known). v.pin) c.kept) is.pin;
  }

  -- another left into it
  pub pass_left : (x : Account Entry) → Teaches caller_of nth_of x (joined_with seat.view left) → u.taken ≡ None
      → u.view ≡ after act.Leave x (caught_up (joined_with seat.view left) x) → IsPass u number pinned
  pass_left x t free same =
      let v : Known = after act.Leave x (caught_up (joined_with seat.view left) x) in
      record {
        free = free;
        number_is = ap (λ (v : Known). v.number) same ∙ is.number_is;
        told = ap (λ (v : Known). v.told) same;
        quiet = ap (λ (v : Known). v.raised) same ∙ is.quiet;
        leaving = ap (λ (v : Known). v.leaving) same;
        claim = ap (λ (v : Known). v.claim) same ∙ is.claim;
        made = subst (λ (v : Known). entries_by caller_of number v.log ≡ v.made) (sym same) (t.made number is.number_is);
        pin = subst (HoldsPinned pinned) (sym same) (holds_still pinned seat.view v t.seen refl is.pin);
      }
