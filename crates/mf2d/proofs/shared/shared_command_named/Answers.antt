use Rattle.std.proofs.Common.{◌≡◌, ◌∙◌, ℕ, List, Bool, true, false, cond, Option, Some, None, ap, sym, nat_eq}
use Rattle.std.specs.Cmp.Lexicographic.{pointwise}
use Rattle.std.specs.Prelude.{codes}
use Rattle.std.specs.Str.{chars, IsUtf8}
use Rattle.mf2d.specs.Shared.{shared_command_named}
use Rattle.mf2d.specs.declared.shared.SharedCommand.{SharedCommand}
use Rattle.mf2d.specs.declared.shared.SharedCommand.TheVariants.{Rehearse}
use Rattle.mf2d.proofs.Words.{is_rehearse}
use Rattle.mf2d.proofs.shared.shared_command_named.Goals as goal

abbrev chosen : Bool → Option SharedCommand
chosen rehearsing = cond rehearsing (Some Rehearse) None

named_by : (word : List ℕ) (rehearsing : Bool) → IsUtf8 word → pointwise nat_eq word (codes "rehearse") ≡ rehearsing
    → shared_command_named (chars word) ≡ chosen rehearsing
unfolding chars
named_by word rehearsing text rehearses = ap chosen (sym (is_rehearse word text) ∙ rehearses)

pub returns-then-eq : goal.returns-then-eq
returns-then-eq c = sym (named_by c.args.word.now true c.utf8.word (sym c.eq.ensures ∙ c.if-eq.true))

pub returns-else-eq : goal.returns-else-eq
returns-else-eq c = sym (named_by c.args.word.now false c.utf8.word (sym c.eq.ensures ∙ c.if-eq.false))
