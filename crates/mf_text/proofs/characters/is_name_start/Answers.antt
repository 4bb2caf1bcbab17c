use Rattle.mf_text.specs.Characters.{is_in, is_name_start, name_start_above, name_start_below}
use Rattle.mf_text.proofs.Either.{first_holds, second_decides}
use Rattle.mf_text.proofs.characters.is_name_start.Goals as goal

pub returns-then-is_name_start_below : goal.returns-then-is_name_start_below
unfolding is_name_start
returns-then-is_name_start_below c = first_holds (is_in name_start_below c.args.c) (is_in name_start_above c.args.c) c.is_name_start_below.result c.is_name_start_below.ensures c.if-is_name_start_below.true

pub returns-else-is_name_start_below : goal.returns-else-is_name_start_below
unfolding is_name_start
returns-else-is_name_start_below c = second_decides (is_in name_start_below c.args.c) (is_in name_start_above c.args.c) c.is_name_start_below.result c.is_name_start_above.result c.is_name_start_below.ensures c.if-is_name_start_below.false c.is_name_start_above.ensures
