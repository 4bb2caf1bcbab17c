use Rattle.mf_parse.specs.Computed.{keys_at, further_keys_at}
use Rattle.mf_parse.proofs.Bodies.{first_gathered, first_key}
use Rattle.mf_parse.proofs.Gathers.{keys_spaced, spaced_shorter, spaced_step, spaced_stop}
use Rattle.mf_parse.proofs.matcher.keys.Goals as goal

pub loop-alloc-init : goal.loop-alloc-init
loop-alloc-init c =
    first_gathered (keys_at c.args.cursor.now.left) (further_keys_at c.key.new.cursor.left) c.in_ok-first.first c.push.new.self c.new-keys.result
    (first_key c.in_ok-first.first c.args.cursor.now.left c.key.new.cursor.left c.in_ok-first.ensures.found) c.new-keys.ensures c.in_ok-push.ensures.ok

pub loop-alloc-smaller : goal.loop-alloc-smaller
loop-alloc-smaller c =
    spaced_shorter _ _ _ keys_spaced c.in_ok-key.key c.loop-alloc.cursor.left c.pass_space_before_key.new.cursor.left c.key-in-loop-alloc.new.cursor.left
    c.loop-alloc-test.ensures.0 c.loop-alloc-test.ensures.1 c.in_ok-key.ensures.found

pub loop-alloc-preserved : goal.loop-alloc-preserved
loop-alloc-preserved c =
    spaced_step _ _ _ keys_spaced (keys_at c.args.cursor.now.left) c.in_ok-key.key c.loop-alloc.keys c.push-in-loop-alloc.new.self c.loop-alloc.cursor.left c.pass_space_before_key.new.cursor.left c.key-in-loop-alloc.new.cursor.left
    c.loop-alloc.invariant c.loop-alloc-test.ensures.0 c.loop-alloc-test.ensures.1 c.in_ok-key.ensures.found c.in_ok-push-2.ensures.ok

pub returns-clause-found : goal.returns-clause-found
returns-clause-found c =
    spaced_stop _ _ _ keys_spaced (keys_at c.args.cursor.now.left) c.loop-alloc.keys c.loop-alloc.cursor.left c.pass_space_before_key.new.cursor.left
    c.loop-alloc.invariant c.loop-alloc-test.ensures.0 c.loop-alloc-test.ensures.1
