use Rattle.std.proofs.Common.{rules, lit<}
use Rattle.std.proofs.lemmas.Iterator.Search.{all_from_yields_List}
use Rattle.std.proofs.lemmas.Iterator.Splits.{YieldsList-from_str_split}
use Rattle.mf_locale.specs.Tag.{is_further_subtag}
use Rattle.mf_locale.proofs.shape.are_further.Goals as goal

pub returns : goal.returns
returns c =
    all_from_yields_List is_further_subtag _ _ _ c.all.ensures.ran
    (YieldsList-from_str_split 45 c.args.parts.now (lit< tt) c.split.ensures.text c.split.ensures.has_more c.split.ensures.pattern)
    (λ part passes after called. search rules)
