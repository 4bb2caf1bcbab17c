use Rattle.std.proofs.Common.{refl, ◌∙◌}
use Rattle.mf_check.proofs.declarations.is_seen.Goals as goal

pub returns : goal.returns
returns c = λ test seen. c.contains.ensures ∙ seen.each c.args.name.now (record { ref_ptr = (0, 0); now = c.args.name.now.value }) refl
