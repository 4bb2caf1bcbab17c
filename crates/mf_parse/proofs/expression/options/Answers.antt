use Rattle.mf_parse.proofs.Gathers.{options_spaced, spaced_shorter, spaced_step, spaced_stop}
use Rattle.mf_parse.specs.Computed.{options_at}
use Rattle.mf_parse.proofs.expression.options.Goals as goal

pub loop-alloc-smaller : goal.loop-alloc-smaller
loop-alloc-smaller c =
    spaced_shorter _ _ _ options_spaced c.in_ok-option.option c.loop-alloc.cursor.left c.pass_space_before_name.new.cursor.left c.option.new.cursor.left
    c.loop-alloc-test.ensures.0 c.loop-alloc-test.ensures.1 c.in_ok-option.ensures.found

pub loop-alloc-preserved : goal.loop-alloc-preserved
loop-alloc-preserved c =
    spaced_step _ _ _ options_spaced (options_at c.args.cursor.now.left) c.in_ok-option.option c.loop-alloc.options c.push.new.self c.loop-alloc.cursor.left c.pass_space_before_name.new.cursor.left c.option.new.cursor.left
    c.loop-alloc.invariant c.loop-alloc-test.ensures.0 c.loop-alloc-test.ensures.1 c.in_ok-option.ensures.found c.in_ok-push.ensures.ok

pub returns-clause-found : goal.returns-clause-found
returns-clause-found c =
    spaced_stop _ _ _ options_spaced (options_at c.args.cursor.now.left) c.loop-alloc.options c.loop-alloc.cursor.left c.pass_space_before_name.new.cursor.left
    c.loop-alloc.invariant c.loop-alloc-test.ensures.0 c.loop-alloc-test.ensures.1
