use Rattle.std.proofs.Common.{refl}
use Rattle.mf_tree.specs.Equality.{is_same_name}
use Rattle.mf_check.specs.Seen.{value_cmp, IsValueOf}
use Rattle.mf_check.proofs.Seen.{inserted, names_tied}
use Rattle.mf_check.proofs.declarations.see_name.Goals as goal

pub returns : goal.returns
returns c =
    inserted value_cmp IsValueOf is_same_name names_tied c.args.name.now (record { ref_ptr = (0, 0); now = c.args.name.now.value }) c.args.seen.now c.insert.new.self
    refl c.in_ok-insert.ensures.updates
