-- The steps, as the queue asks for them.
use Rattle.std.proofs.Common.{◌≡◌, ◌≢◌, ℕ, ◌+◌, List, [], ◌∷◌, length, refl, sym, ap, ◌∙◌, arith, length-append, Option, None}
use Rattle.mf_queue.specs.Duties.{MayTake, MayGive, MayRaise, MayCount, MaySplit, MayJoin}
use Rattle.atomic_table.specs.declared.shared.Seat.{Seat as Sat}
use Rattle.mf_queue.specs.declared.parts.Item.{Item}
use Rattle.mf_queue.specs.declared.parts.Knowledge.{Knowledge}
use Rattle.mf_queue.specs.Queue.{view}
use Rattle.mf_turn.specs.declared.act.Act.{Act}
use Rattle.mf_turn.specs.declared.view.View.{View}
use Rattle.mf_turn.specs.Account.{Account, IsNew}
use Rattle.mf_turn.specs.Acts.{after, caught_up, joined_with, shadow_of, spent_view, with_log, with_raised, Fixes, MayEnd, MayFix}
use Rattle.mf_turn.specs.Rule.{first_view, TurnRule}
use Rattle.mf_turn.specs.Standing.{standing_of, Standing}
use Rattle.mf_turn.specs.Taught.{Counted, Teaches}
use Rattle.mf_turn.proofs.Keeping.{takes, counts}
use Rattle.mf_turn.proofs.Acts.{ends_by}
use Rattle.mf_turn.proofs.Ending.{log_all}
use Rattle.mf_turn.proofs.Raising.{raises}
use Rattle.mf_turn.proofs.Joining.{splits, joins}
use Rattle.mf_turn.proofs.Opening.{opens}
use Rattle.mf_turn.proofs.Teaching.{teaches}

module _ {T E : Type 0} (caller nth : E → ℕ) (account : T → Account E) where
  abbrev pub Held : ℕ → T → Option ℕ → List (View E) → Type 0
  Held count x holder views = TurnRule caller nth count (account x) holder views

  pub may_take : (id : ℕ) (v : View E) → MayTake Held id v (λ v count x w. (w ≡ caught_up v (account x)) × Teaches caller nth (account x) v)
  may_take id v count x views r at = (
    caught_up v (account x),
    takes caller nth count (account x) views id v r at,
    (refl, teaches caller nth count (account x) views r id v at),
  )

  pub may_count : (id : ℕ) (v : View E) → MayCount Held id v (λ v count x w. Counted caller count v w)
  may_count id v count x holder views r at = let f = r.each id v at in (
    with_log v r.history,
    counts caller nth count (account x) holder views id v r at,
    record { kept = refl; long = sym r.counted; seen = f.seen; told = f.told; made = f.made; own = f.own },
  )

  pub may_give : (act : Act) (id : ℕ) (v : View E) (count : ℕ) (x y : T) → MayEnd act (account x) (account y) v → MayGive Held id v count x act y (λ v count x act y w. w ≡ after act (account x) v)
  may_give act id v count x y may views r at = (after act (account x) v, ends_by caller nth count (account x) (account y) views id v r at act may, refl)

  pub may_raise : (id : ℕ) (v : View E) (count : ℕ) (x y : T) → MayFix caller nth (account x) (account y) v → MayRaise Held id v count x y (λ v count x y w. (count + 1 ≡ length (account y).log) × Fixes (account x) (account y) v w)
  may_raise id v count x y may views r at = let f = r.each id v at in let all : (account x).log ≡ r.history = log_all caller nth count (account x) views id v r at may.quiet in
      let counted : count ≡ length (account x).log = r.counted ∙ ap length (sym all) in let few = may.few in
      let long : length (account y).log ≡ length (account x).log + 1 = ap length may.log ∙ length-append (account x).log (may.entry ∷ []) in (
        with_raised v may.entry,
        omega arith,
        raises caller nth count (account x) views id v r at may.entry may.quiet may.own may.next,
        (omega arith, (may.entry, may.log, refl)),
      )

  pub may_split : (id : ℕ) (v : View E) → MaySplit Held id v v (shadow_of v)
  may_split id v count x holder views r new_seat at = splits caller nth count (account x) holder views id v r new_seat at

  pub may_join : (id : ℕ) (v : View E) (other : ℕ) (u : View E) → v.leaving ≡ None → u.leaving ≡ None → u.pin ≡ None → u.claim ≡ None → (u.number ≢ None → v.number ≢ None) → MayJoin Held id v other u (joined_with v u) spent_view
  may_join id v other u free free' no_pin no_claim numbered count x holder views r away at apart there = joins caller nth count (account x) holder views id v other u r away at apart there free free' no_pin no_claim numbered

  pub may_open : (x : T) → IsNew (account x) → Held 0 x None (first_view ∷ [])
  may_open x new = opens caller nth (account x) new

  -- the same, of what clauses see of two seats
  pub may_join_at : (s t : Standing T E) (a b : Sat (Item T Act) (Knowledge T (View E))) → standing_of a ≡ s → standing_of b ≡ t
      → (s.view.leaving ≡ None) × (t.view.leaving ≡ None) → t.view.pin ≡ None → t.view.claim ≡ None → (t.view.number ≢ None → s.view.number ≢ None)
      → MayJoin Held a.id (view a) b.id (view b) (joined_with (view a) (view b)) spent_view
  may_join_at s t a b is is' free no_pin no_claim numbered = let e = ap (λ (z : Standing T E). z.view) is in let e' = ap (λ (z : Standing T E). z.view) is' in
      may_join a.id (view a) b.id (view b) (ap (λ (v : View E). v.leaving) e ∙ free.0) (ap (λ (v : View E). v.leaving) e' ∙ free.1) (ap (λ (v : View E). v.pin) e' ∙ no_pin) (ap (λ (v : View E). v.claim) e' ∙ no_claim)
      (λ some_theirs none_mine. numbered (λ none_theirs. some_theirs (ap (λ (v : View E). v.number) e' ∙ none_theirs)) (ap (λ (v : View E). v.number) (sym e) ∙ none_mine))
