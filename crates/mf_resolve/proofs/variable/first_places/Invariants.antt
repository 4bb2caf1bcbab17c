use Rattle.std.proofs.Common.{take}
use Rattle.mf_resolve.specs.Sources.{HasPlaces}
use Rattle.mf_resolve.proofs.variable.first_places.Given as goal

abbrev pub invariant-loop-place : goal.invariant-loop-place
invariant-loop-place l = HasPlaces (take l.place l.declarations) l.places
