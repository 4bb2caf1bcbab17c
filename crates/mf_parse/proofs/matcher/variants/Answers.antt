use Rattle.mf_parse.specs.Computed.{variants_at, further_variants_at}
use Rattle.mf_parse.proofs.Bodies.{first_gathered, first_variant}
use Rattle.mf_parse.proofs.Gathers.{variants_spaced, spaced_shorter, spaced_step, spaced_stop}
use Rattle.mf_parse.proofs.matcher.variants.Goals as goal

pub loop-alloc-init : goal.loop-alloc-init
loop-alloc-init c =
    first_gathered (variants_at c.args.cursor.now.left) (further_variants_at c.variant.new.cursor.left) c.in_ok-first.first c.push.new.self c.new-variants.result
    (first_variant c.in_ok-first.first c.args.cursor.now.left c.variant.new.cursor.left c.in_ok-first.ensures.found) c.new-variants.ensures c.in_ok-push.ensures.ok

pub loop-alloc-smaller : goal.loop-alloc-smaller
loop-alloc-smaller c =
    spaced_shorter _ _ _ variants_spaced c.in_ok-variant.variant c.loop-alloc.cursor.left c.pass_space_before_variant.new.cursor.left c.variant-in-loop-alloc.new.cursor.left
    c.loop-alloc-test.ensures.0 c.loop-alloc-test.ensures.1 c.in_ok-variant.ensures.found

pub loop-alloc-preserved : goal.loop-alloc-preserved
loop-alloc-preserved c =
    spaced_step _ _ _ variants_spaced (variants_at c.args.cursor.now.left) c.in_ok-variant.variant c.loop-alloc.variants c.push-in-loop-alloc.new.self c.loop-alloc.cursor.left c.pass_space_before_variant.new.cursor.left c.variant-in-loop-alloc.new.cursor.left
    c.loop-alloc.invariant c.loop-alloc-test.ensures.0 c.loop-alloc-test.ensures.1 c.in_ok-variant.ensures.found c.in_ok-push-2.ensures.ok

pub returns-clause-found : goal.returns-clause-found
returns-clause-found c =
    spaced_stop _ _ _ variants_spaced (variants_at c.args.cursor.now.left) c.loop-alloc.variants c.loop-alloc.cursor.left c.pass_space_before_variant.new.cursor.left
    c.loop-alloc.invariant c.loop-alloc-test.ensures.0 c.loop-alloc-test.ensures.1
