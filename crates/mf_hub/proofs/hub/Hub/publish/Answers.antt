use Rattle.mf_hub.specs.Passes.{Known}
use Rattle.mf_hub.proofs.Growing.{err_through, ok_through}
use Rattle.mf_hub.proofs.hub.Hub.publish.Goals as goal

pub returns-clause-published : goal.returns-clause-published
returns-clause-published g c = let q : Known = c.newest_for.new.pass.view in
    ok_through c.args.pass.now.view q c.publish_made.new.pass.view c.args.change c.publish_made.result c.newest_for.ensures.grows
    c.publish_made.ensures.published

pub returns-clause-grows : goal.returns-clause-grows
returns-clause-grows g c = let q : Known = c.newest_for.new.pass.view in
    err_through c.args.pass.now.view q c.publish_made.new.pass.view c.publish_made.result c.newest_for.ensures.grows c.publish_made.ensures.grows
