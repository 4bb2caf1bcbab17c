use Rattle.std.proofs.Common.{rules, ℕ, ◌∷◌, sym, ap, ◌∙◌, subst}
use Rattle.atomic_table.specs.Table.{rest}
use Rattle.mf_queue.specs.declared.parts.Item.TheVariants.{Home}
use Rattle.mf_queue.specs.Duties.{MayGive}
use Rattle.mf_queue.proofs.Keeps.{ends}
use Rattle.mf_queue.proofs.Seats.{is_holding, holds_at, rests_idle, taken_idle}
use Rattle.mf_queue.proofs.queue.Queue.give.Goals as goal

pub fetch_add-requires : goal.fetch_add-requires
fetch_add-requires g c = let h = is_holding _ _ _ c.requires.rests c.requires.may in let now = c.exchange.ensures.3 in let mark = c.of.result in (
  search rules,
  search rules,
  ends _ _ g.M.Giving.then _ _ _ _ h.0 h.1 h.2 c.args.value mark (ap (λ m. m.0.stage) now ∙ h.3)
      (ap (λ m. m.1) now ∙ ap (λ l. (0, Home c.args.value mark) ∷ rest l) h.4)
      (subst (λ (z : ℕ × g.row.V.Denot × g.row.A.Denot). MayGive g.P.QueueRule.holds z.0 z.1 h.2 h.1 z.2 c.args.value g.M.Giving.then)
      (λ i. (sym c.exchange.ensures.1 i, sym (ap (λ m. m.0.view) now) i, sym c.of.ensures i)) h.5),
)

pub returns-clause-same : goal.returns-clause-same
returns-clause-same g c = let h = is_holding _ _ _ c.requires.rests c.requires.may in let now = c.exchange.ensures.3 in let mark = c.of.result in
    let t = c.fetch_add.ensures.2 h.0 h.1 h.2 c.args.value mark (ap (λ m. m.0.stage) now ∙ h.3) (ap (λ m. m.1) now ∙ ap (λ l. (0, Home c.args.value mark) ∷ rest l) h.4) in
    (search rules, rests_idle _ _ t.0 t.1)

pub returns-clause-ended : goal.returns-clause-ended
returns-clause-ended g c = let h = is_holding _ _ _ c.requires.rests c.requires.may in let now = c.exchange.ensures.3 in let mark = c.of.result in
    let t = c.fetch_add.ensures.2 h.0 h.1 h.2 c.args.value mark (ap (λ m. m.0.stage) now ∙ h.3) (ap (λ m. m.1) now ∙ ap (λ l. (0, Home c.args.value mark) ∷ rest l) h.4) in
    taken_idle _ t.0

pub returns-clause-told : goal.returns-clause-told
returns-clause-told g c = let h = is_holding _ _ _ c.requires.rests c.requires.may in let now = c.exchange.ensures.3 in let mark = c.of.result in
    let t = c.fetch_add.ensures.2 h.0 h.1 h.2 c.args.value mark (ap (λ m. m.0.stage) now ∙ h.3) (ap (λ m. m.1) now ∙ ap (λ l. (0, Home c.args.value mark) ∷ rest l) h.4) in
    holds_at _ _ h.0 h.1 h.2 h.3
    (subst (λ (z : g.row.A.Denot × g.row.V.Denot). g.M.Giving.then z.1 h.2 h.1 z.0 c.args.value c.fetch_add.new.seat.me.0.view) (λ i. (c.of.ensures i, ap (λ m. m.0.view) now i)) t.2)
