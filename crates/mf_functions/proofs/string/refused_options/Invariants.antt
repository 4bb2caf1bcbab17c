use Rattle.std.proofs.Common.{◌≡◌, ◌++◌, drop, false}
use Rattle.mf_meaning.specs.Functions.{refused_from, refused_options}
use Rattle.mf_functions.proofs.string.refused_options.Given as goal

abbrev pub invariant-loop-place : goal.invariant-loop-place
invariant-loop-place l =
    l.refused ++ refused_from (λ given. false) l.place (drop l.place l._given-items) ≡ refused_options (λ given. false) l._given-items
