use Rattle.std.proofs.Common.{rules, ◌≡◌, ℕ, ◌+◌, refl, sym, ap, ◌∙◌, subst, arith, Some}
use Rattle.mf_queue.specs.Duties.{MayRaise}
use Rattle.mf_queue.proofs.Keeps.{stands, raises}
use Rattle.mf_queue.proofs.Seats.{is_holding, holds_at, law_at, rests_holding, taken_holding}
use Rattle.mf_queue.proofs.queue.Queue.raise.Goals as goal

pub load-count-requires : goal.load-count-requires
load-count-requires g c = (search rules, search rules, stands _ _ g.M.Raising.then _ _ _ c.args.next.now (λ p x count is. law_at _ _ p x count is c.requires.may))

pub overflow_add-count : goal.overflow_add-count
overflow_add-count g c = let h = is_holding _ _ _ c.requires.rests c.requires.may in let found = c.load-count.ensures.2.1 h.0 h.1 h.2 h.3 in omega (arith, found.0, found.1)

pub compare_exchange_with-requires : goal.compare_exchange_with-requires
compare_exchange_with-requires g c = let h = is_holding _ _ _ c.requires.rests c.requires.may in let l = c.load-count.ensures in let here = (l.2.1 h.0 h.1 h.2 h.3).0 in (
  search rules,
  search rules,
  raises _ _ g.M.Raising.then _ _ _ h.0 h.1 h.2 c.of.result _ _ _ refl here (ap (λ (z : ℕ). z + 1) here) (ap (λ m. m.0.stage) l.2.0 ∙ h.3)
      (subst (λ (z : ℕ × g.row.V.Denot × g.row.T.Denot). MayRaise g.P.QueueRule.holds z.0 z.1 h.2 h.1 z.2 g.M.Raising.then) (λ i. (sym l.1 i, sym (ap (λ m. m.0.view) l.2.0) i, sym c.of.ensures i)) h.5),
)

pub overflow_add-result : goal.overflow_add-result
overflow_add-result g c = let h = is_holding _ _ _ c.requires.rests c.requires.may in let found = c.load-count.ensures.2.1 h.0 h.1 h.2 h.3 in omega (arith, found.0, found.1)

pub returns-clause-same : goal.returns-clause-same
returns-clause-same g c = let h = is_holding _ _ _ c.requires.rests c.requires.may in let l = c.load-count.ensures in let here = (l.2.1 h.0 h.1 h.2 h.3).0 in
    let t = c.compare_exchange_with.ensures.2 h.0 h.1 h.2 c.of.result (ap (λ m. m.0.stage) l.2.0 ∙ h.3) here refl in
    (search rules, rests_holding _ _ h.0 (h.1, h.2 + 1) t.0 (t.1 ∙ ap (λ m. m.1) l.2.0 ∙ h.4))

pub returns-clause-raised : goal.returns-clause-raised
returns-clause-raised g c = let h = is_holding _ _ _ c.requires.rests c.requires.may in let l = c.load-count.ensures in let here = (l.2.1 h.0 h.1 h.2 h.3).0 in
    let t = c.compare_exchange_with.ensures.2 h.0 h.1 h.2 c.of.result (ap (λ m. m.0.stage) l.2.0 ∙ h.3) here refl in
    let up : c.load-count.result + 1 ≡ h.2 + 1 = ap (λ (z : ℕ). z + 1) here in
    holds_at _ _ h.0 h.1 h.2 h.3 (
      up,
      taken_holding _ h.0 (h.1, h.2 + 1) t.0 ∙ (λ i. Some (h.1, sym up i)),
      subst (λ (z : g.row.V.Denot × g.row.T.Denot). g.M.Raising.then z.0 h.2 h.1 z.1 c.compare_exchange_with.new.seat.me.0.view) (λ i. (ap (λ m. m.0.view) l.2.0 i, c.of.ensures i)) t.2,
    )
