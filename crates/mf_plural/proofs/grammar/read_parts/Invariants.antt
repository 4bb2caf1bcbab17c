-- What is read so far and what is left are all.
use Rattle.std.proofs.Common.{◌≡◌, ◌++◌}
use Rattle.std.specs.Option.{option_copied, option_map}
use Rattle.mf_plural.specs.Cuts.{between_rest, rest_len}
use Rattle.mf_plural.specs.Computed.{part_of, parts_of, all_of}
use Rattle.mf_plural.specs.declared.token.Separator.TheVariants.{BetweenParts}
use Rattle.mf_plural.proofs.grammar.read_parts.Given as goal

abbrev pub invariant-loop-rest : goal.invariant-loop-rest
invariant-loop-rest l = parts_of l.fn.tokens ≡ option_map (λ more. l.parts ++ more) (all_of part_of (between_rest BetweenParts (option_copied l.rest)))

abbrev pub decreases-loop-rest : goal.decreases-loop-rest
decreases-loop-rest l = rest_len (option_copied l.rest)
