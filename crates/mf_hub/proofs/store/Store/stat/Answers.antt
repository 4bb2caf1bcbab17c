use Rattle.std.proofs.Common.{◌∙◌, ap, length, subst, sym}
use Rattle.mf_hub.specs.Stores.{IsCount, Stored}
use Rattle.mf_hub.specs.declared.stat.Stat.{Stat}
use Rattle.mf_hub.proofs.Claims.{counts}
use Rattle.mf_hub.proofs.store.Store.stat.Goals as goal

pub returns : goal.returns
returns c = let s = c.self.inside in
    let stat : Stat = record { edition = c.len-edition.result; starts = c.totals-starts.result.0; quits = c.totals-starts.result.1 } in
    subst (λ (z : Stat). IsCount z c.args.self.now) (sym c.of.ensures.is)
    (subst (λ (z : Stored). IsCount stat z) c.self.view_is
    (counts s.board s.newest s.given stat c.self.invariant (c.len-edition.ensures.len ∙ ap length c.log.ensures) c.of.ensures.small
    c.totals-starts.ensures.starts c.totals-starts.ensures.quits))
