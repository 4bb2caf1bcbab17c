use Rattle.std.proofs.Common.{rules, not, ap, ◌∙◌}
use Rattle.std.proofs.lemmas.List.{nil_from_length}
use Rattle.std.proofs.lemmas.Iterator.{YieldsList-from_chars}
use Rattle.std.proofs.lemmas.Iterator.Search.{all_from_yields_List}
use Rattle.mf_text.specs.Characters.{is_name_char}
use Rattle.mf_print.proofs.Reading.{unquoted_all, unquoted_nothing}
use Rattle.mf_print.proofs.literal.is_unquoted.Goals as goal

pub returns-then-not-is_empty : goal.returns-then-not-is_empty
returns-then-not-is_empty c =
    all_from_yields_List is_name_char _ _ _ c.all.ensures.ran (YieldsList-from_chars c.args.value.now c.utf8.value cc) (λ x b q k. search rules)
    ∙ unquoted_all c.args.value.now c.utf8.value (search rules)

pub returns-else-not-is_empty : goal.returns-else-not-is_empty
returns-else-not-is_empty c = ap not c.if-not-is_empty.false ∙ unquoted_nothing c.args.value.now (nil_from_length c.args.value.now (search rules))
