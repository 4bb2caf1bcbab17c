use Rattle.std.proofs.Common.{ap, ◌∙◌, subst, sym}
use Rattle.mf_text.specs.Order.{byte_cmp}
use Rattle.mf_text.specs.Ordered.{LacksAt, StandsAt}
use Rattle.mf_text.specs.Pairs.{insert_pair, AreInByteOrder}
use Rattle.mf_text.specs.declared.pair.Pair.{Pair}
use Rattle.mf_text.proofs.Pairs.{ascending_put, put_between, put_there}
use Rattle.mf_text.proofs.ordered_pairs.OrderedPairs.put.Goals as goal

pub returns-in-Ok-clause-ok : goal.returns-in-Ok-clause-ok
returns-in-Ok-clause-ok c =
    put_there c.self.inside.pairs.items c.args.pair c.in-Ok.at
    (subst (λ pairs. StandsAt (λ (pair : Pair). byte_cmp pair.name c.args.pair.name) pairs c.in-Ok.at) c.deref.ensures.value c.in-Ok.ensures)
    ∙ ap (insert_pair c.args.pair) c.self.view_is

pub returns-in_ok-insert-in-Err-clause-ok : goal.returns-in_ok-insert-in-Err-clause-ok
returns-in_ok-insert-in-Err-clause-ok c =
    c.in_ok-insert-in-Err.ensures.items
    ∙ put_between c.self.inside.pairs.items c.args.pair c.in-Err.at
    (subst (λ pairs. LacksAt (λ (pair : Pair). byte_cmp pair.name c.args.pair.name) pairs c.in-Err.at) c.deref.ensures.value c.in-Err.ensures)
    ∙ ap (insert_pair c.args.pair) c.self.view_is

pub invariant_of-self : goal.invariant_of-self
invariant_of-self c =
    subst (λ pairs. AreInByteOrder pairs)
    (sym (put_there c.self.inside.pairs.items c.args.pair c.in-Ok.at
    (subst (λ pairs. StandsAt (λ (pair : Pair). byte_cmp pair.name c.args.pair.name) pairs c.in-Ok.at) c.deref.ensures.value c.in-Ok.ensures)))
    (ascending_put c.args.pair c.self.inside.pairs.items c.self.invariant)

pub invariant_of-self-in-Continue-1 : goal.invariant_of-self-in-Continue-1
invariant_of-self-in-Continue-1 c =
    subst (λ pairs. AreInByteOrder pairs)
    (sym (c.in_ok-insert-in-Err.ensures.items
    ∙ put_between c.self.inside.pairs.items c.args.pair c.in-Err.at
    (subst (λ pairs. LacksAt (λ (pair : Pair). byte_cmp pair.name c.args.pair.name) pairs c.in-Err.at) c.deref.ensures.value c.in-Err.ensures)))
    (ascending_put c.args.pair c.self.inside.pairs.items c.self.invariant)
