use Rattle.std.specs.BTreeMap.{get}
use Rattle.mf_text.specs.Order.{byte_cmp}
use Rattle.mf_value.specs.Index.{IsIndexBefore}
use Rattle.mf_value.proofs.entries.index_of.Given as goal

abbrev pub invariant-loop-place : goal.invariant-loop-place
invariant-loop-place l = IsIndexBefore l.pairs l.place (λ form. get byte_cmp l.places form) l.repeated
