use Rattle.std.proofs.Common.{rules, chars, sym, ap, ◌∙◌}
use Rattle.std.proofs.lemmas.Iterator.{YieldsList-from_chars}
use Rattle.std.proofs.lemmas.Iterator.Search.{find_from_yields_List}
use Rattle.std.specs.Option.{option_map}
use Rattle.mf_print.proofs.Reading.{is_other, found_first, found_nothing}
use Rattle.mf_print.proofs.pattern.begins_with_full_stop.Goals as goal

pub returns-in-Some : goal.returns-in-Some
returns-in-Some c =
    let found = find_from_yields_List is_other _ _ c.find.result c.find.ensures.ran (YieldsList-from_chars c.args.text.now c.utf8.text cc) (λ x b q k. search rules) in
    found_first (chars c.args.text.now) c.in-Some.c (sym found ∙ ap (option_map (λ x. x)) c.in-Some.is)

pub returns-in-None : goal.returns-in-None
returns-in-None c =
    let found = find_from_yields_List is_other _ _ c.find.result c.find.ensures.ran (YieldsList-from_chars c.args.text.now c.utf8.text cc) (λ x b q k. search rules) in
    found_nothing (chars c.args.text.now) (sym found ∙ ap (option_map (λ x. x)) c.in-None.is)
