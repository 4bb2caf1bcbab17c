use Rattle.std.proofs.Common.{◌≡◌, sym, subst}
use Rattle.std.proofs.lemmas.Result.{IfOk-weaker}
use Rattle.mf_tree.specs.Grammar.{SpellsMessage}
use Rattle.mf_tree.specs.Canonical.{canonical}
use Rattle.mf_print.proofs.Messages.{message}
use Rattle.mf_print.proofs.message.print.Goals as goal

pub returns-clause-spelled : goal.returns-clause-spelled
returns-clause-spelled c =
    let node = c.args.message.now in
    IfOk-weaker c.source_of.result (λ source. source ≡ canonical node) (SpellsMessage node)
    (λ source is. subst (SpellsMessage node) (sym is) (message node c.requires.node))
    c.source_of.ensures
