use Rattle.std.proofs.Common.{None, refl, sym, ◌∙◌}
use Rattle.mf_value.specs.declared.called.Ranked.TheVariants.{BadKey}
use Rattle.mf_select.proofs.Advancing.{literal_bad, ranked_by}
use Rattle.mf_select.proofs.keys.rank_literal.Goals as goal

pub returns-in_ok-add-in-BadKey : goal.returns-in_ok-add-in-BadKey
returns-in_ok-add-in-BadKey g c =
    let meaning = g.F.Functions.meaning c.args.functions.now in
    let value = c.args.value.now in
    let key = c.args.key.now in
    literal_bad meaning c.args.scope.now value key BadKey
    (ranked_by meaning value key BadKey (sym c.selects_nothing.ensures ∙ c.if-selects_nothing.false) (sym c.in-BadKey.is ∙ c.in_ok-rank.ensures))
    refl None refl c.add.new.self c.in_ok-clone-in-BadKey.field-0 c.in_ok-clone-in-BadKey.ensures.cases c.in_ok-add-in-BadKey.ensures
