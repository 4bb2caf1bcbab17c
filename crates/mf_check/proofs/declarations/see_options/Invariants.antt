use Rattle.std.proofs.Common.{take}
use Rattle.mf_tree.specs.Faults.{is_in_options}
use Rattle.mf_check.specs.Seen.{AreNamesSeenToo}
use Rattle.mf_check.proofs.declarations.see_options.Given as goal

abbrev pub invariant-loop-option : goal.invariant-loop-option
invariant-loop-option l = AreNamesSeenToo (λ name. is_in_options name (take l.option-index l.options)) l.fn.seen l.seen
