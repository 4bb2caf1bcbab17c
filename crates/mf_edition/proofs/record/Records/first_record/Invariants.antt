use Rattle.std.proofs.Common.{◌≡◌, length}
use denote.Text.{Utf8}
use denote.Shadow.{shadow}
use Rattle.mf_locale.specs.Chain.{truncations}
use Rattle.mf_edition.specs.Records.{first_record}
use Rattle.mf_edition.proofs.record.Records.first_record.Given as goal

-- says that each `&str` the loop changes is text: keep it, and add clauses with ×
abbrev pub invariant-loop-hyphen : goal.invariant-loop-hyphen
invariant-loop-hyphen l = shadow (Utf8 l.rest) × (first_record l.self (truncations l.rest) ≡ first_record l.self (truncations l.fn.tag))

abbrev pub decreases-loop-hyphen : goal.decreases-loop-hyphen
decreases-loop-hyphen l = length l.rest
