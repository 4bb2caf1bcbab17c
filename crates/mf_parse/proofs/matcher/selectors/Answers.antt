use Rattle.mf_parse.proofs.Gathers.{selectors_spaced, spaced_shorter, spaced_step, spaced_stop}
use Rattle.mf_parse.specs.Computed.{selectors_at}
use Rattle.mf_parse.proofs.matcher.selectors.Goals as goal

pub loop-alloc-smaller : goal.loop-alloc-smaller
loop-alloc-smaller c =
    spaced_shorter _ _ _ selectors_spaced c.in_ok-name.name c.loop-alloc.cursor.left c.pass_space_before.new.cursor.left c.variable.new.cursor.left
    c.loop-alloc-test.ensures.0 c.loop-alloc-test.ensures.1 c.in_ok-name.ensures.found

pub loop-alloc-preserved : goal.loop-alloc-preserved
loop-alloc-preserved c =
    spaced_step _ _ _ selectors_spaced (selectors_at c.args.cursor.now.left) c.in_ok-name.name c.loop-alloc.selectors c.push.new.self c.loop-alloc.cursor.left c.pass_space_before.new.cursor.left c.variable.new.cursor.left
    c.loop-alloc.invariant c.loop-alloc-test.ensures.0 c.loop-alloc-test.ensures.1 c.in_ok-name.ensures.found c.in_ok-push.ensures.ok

pub returns-clause-found : goal.returns-clause-found
returns-clause-found c =
    spaced_stop _ _ _ selectors_spaced (selectors_at c.args.cursor.now.left) c.loop-alloc.selectors c.loop-alloc.cursor.left c.pass_space_before.new.cursor.left
    c.loop-alloc.invariant c.loop-alloc-test.ensures.0 c.loop-alloc-test.ensures.1
