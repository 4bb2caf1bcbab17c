use Rattle.mf_text.specs.Characters.{is_in, is_name_start, is_name_char, name_rest}
use Rattle.mf_text.proofs.Either.{first_holds, second_decides}
use Rattle.mf_text.proofs.characters.is_name_char.Goals as goal

pub returns-then-is_name_start : goal.returns-then-is_name_start
unfolding is_name_char
returns-then-is_name_start c = first_holds (is_name_start c.args.c) (is_in name_rest c.args.c) c.is_name_start.result c.is_name_start.ensures c.if-is_name_start.true

pub returns-else-is_name_start : goal.returns-else-is_name_start
unfolding is_name_char
returns-else-is_name_start c = second_decides (is_name_start c.args.c) (is_in name_rest c.args.c) c.is_name_start.result c.is_name_rest.result c.is_name_start.ensures c.if-is_name_start.false c.is_name_rest.ensures
