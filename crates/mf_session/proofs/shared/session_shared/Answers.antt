use Rattle.std.proofs.Common.{◌∙◌, ap, subst}
use Rattle.mf_hub.specs.Passes.{Grows, Keeps, PassState}
use Rattle.mf_session.proofs.Told.{hub_stays, shared_outcome}
use Rattle.mf_session.proofs.shared.session_shared.Goals as goal

pub unpin-requires : goal.unpin-requires
unpin-requires g c = let a = c.answer_input-status in record {
  own =
      ap (λ (p : PassState). p.hub) c.counter.view_is
      ∙ hub_stays c.args.caps.now c.args.pass a.new.desk a.new.desk _ _ _ _ a.result _ _ a.ensures.outcome ∙ c.requires.own;
}

pub returns-clause-own : goal.returns-clause-own
returns-clause-own g c = let a = c.answer_input-status in
    c.unpin.ensures.own ∙ ap (λ (p : PassState). p.hub) c.counter.view_is
    ∙ hub_stays c.args.caps.now c.args.pass a.new.desk a.new.desk _ _ _ _ a.result _ _ a.ensures.outcome ∙ c.requires.own

pub returns-clause-outcome : goal.returns-clause-outcome
returns-clause-outcome g c = let a = c.answer_input-status in
    let grows = subst (λ (p : PassState). Grows p.view c.unpin.new.pass.view) c.counter.view_is c.unpin.ensures.grows in
    let keeps = subst (λ (p : PassState). Keeps p.view c.unpin.new.pass.view) c.counter.view_is c.unpin.ensures.keeps in
    shared_outcome c.args.caps.now c.args.pass a.new.desk c.unpin.new.pass _ _ _ _ c.number.result c.number.ensures c.is_at_rest.ensures.made
    grows keeps a.result _ _ a.ensures.outcome
