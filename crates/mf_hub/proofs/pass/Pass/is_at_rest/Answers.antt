use Rattle.std.proofs.Common.{◌≡◌, ◌∙◌, ℕ, Some, sym, subst}
use Rattle.mf_turn.specs.Account.{entries_by}
use Rattle.mf_hub.specs.Passes.{HasMadeAll, PassState}
use Rattle.mf_hub.specs.Stores.{caller_of}
use Rattle.mf_hub.proofs.pass.Pass.is_at_rest.Goals as goal

pub returns-clause-made : goal.returns-clause-made
returns-clause-made c = let i = c.self.inside in let is = c.self.invariant.0 in
    subst (λ (p : PassState). HasMadeAll p.view) c.self.view_is
    (λ n own. subst (λ (m : ℕ). entries_by caller_of m i.seat.view.log ≡ i.seat.view.made) (some_is i.number n (sym is.number_is ∙ own)) is.made)
  where
    some_is : (a b : ℕ) → Some a ≡ Some b → a ≡ b
    some_is a b same = cc
