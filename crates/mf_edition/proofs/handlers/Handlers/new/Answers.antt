use Rattle.std.proofs.Common.{subst, sym}
use Rattle.mf_edition.specs.Handlers.{AreInNameOrder}
use Rattle.mf_edition.proofs.HandlerSearch.{ascending_none}
use Rattle.mf_edition.proofs.handlers.Handlers.new.Goals as goal

pub invariant_of-result : goal.invariant_of-result
invariant_of-result c = subst (λ handlers. AreInNameOrder handlers) (sym c.new.ensures.items) ascending_none
