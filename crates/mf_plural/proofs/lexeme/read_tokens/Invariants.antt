-- The tokens so far and those of what is left are those of the text.
use Rattle.std.proofs.Common.{◌≡◌, ◌++◌, length}
use Rattle.std.specs.Option.{option_map}
use Rattle.mf_plural.specs.Cuts.{BeginsWithToken}
use Rattle.mf_plural.specs.Computed.{tokens_of}
use Rattle.mf_plural.proofs.lexeme.read_tokens.Given as goal

abbrev pub invariant-loop-rest : goal.invariant-loop-rest
invariant-loop-rest l = record {
  same : tokens_of l.fn.text ≡ option_map (λ more. l.found ++ more) (tokens_of l.rest);
  begins : BeginsWithToken l.rest;
}

abbrev pub decreases-loop-rest : goal.decreases-loop-rest
decreases-loop-rest l = length l.rest
