-- A word is ASCII text, so its characters are its bytes.
use Rattle.std.proofs.Common.{◌≡◌, ◌∙◌, ℕ, List, Bool, true, false, cond, Option, Some, None, ap, sym, nat_eq, refl}
use Rattle.std.specs.Cmp.Lexicographic.{pointwise}
use Rattle.std.specs.Prelude.{codes}
use Rattle.std.proofs.lemmas.Str.{IsUtf8-from_is_utf8}
use Rattle.std.specs.Str.{bytes_eq, chars, IsUtf8, is_utf8}
use Rattle.mf_text.proofs.SameTexts.{same_tests}
use Rattle.mf2d.specs.Commands.{command_named}
use Rattle.mf2d.specs.declared.command.Command.{Command}
use Rattle.mf2d.specs.declared.command.Command.TheVariants.{Pipe, Lint}
use Rattle.mf2d.proofs.command.command_named.Goals as goal

pipe_chars : chars (codes "pipe") ≡ codes "pipe"
unfolding chars
pipe_chars = refl

pipe_text : IsUtf8 (codes "pipe")
unfolding is_utf8 chars lib.Utf8.encode
pipe_text = IsUtf8-from_is_utf8 (codes "pipe") refl

lint_chars : chars (codes "lint") ≡ codes "lint"
unfolding chars
lint_chars = refl

lint_text : IsUtf8 (codes "lint")
unfolding is_utf8 chars lib.Utf8.encode
lint_text = IsUtf8-from_is_utf8 (codes "lint") refl

-- the tests on the bytes of a word are those on its characters
is_pipe : (word : List ℕ) → IsUtf8 word → pointwise nat_eq word (codes "pipe") ≡ bytes_eq (chars word) (codes "pipe")
is_pipe word text = same_tests word (codes "pipe") text pipe_text ∙ ap (pointwise nat_eq (chars word)) pipe_chars

is_lint : (word : List ℕ) → IsUtf8 word → pointwise nat_eq word (codes "lint") ≡ bytes_eq (chars word) (codes "lint")
is_lint word text = same_tests word (codes "lint") text lint_text ∙ ap (pointwise nat_eq (chars word)) lint_chars

abbrev chosen : (piping linting : Bool) → Option Command
chosen piping linting = cond piping (Some Pipe) (cond linting (Some Lint) None)

named_by : (word : List ℕ) (piping linting : Bool) → IsUtf8 word → pointwise nat_eq word (codes "pipe") ≡ piping → pointwise nat_eq word (codes "lint") ≡ linting
    → command_named (chars word) ≡ chosen piping linting
unfolding chars
named_by word piping linting text pipes lints =
    ap (λ (b : Bool). chosen b (bytes_eq (chars word) (codes "lint"))) (sym (is_pipe word text) ∙ pipes)
    ∙ ap (chosen piping) (sym (is_lint word text) ∙ lints)

named_pipe : (word : List ℕ) → IsUtf8 word → pointwise nat_eq word (codes "pipe") ≡ true → command_named (chars word) ≡ Some Pipe
named_pipe word text pipes = named_by word true (pointwise nat_eq word (codes "lint")) text pipes refl

pub returns-then-eq : goal.returns-then-eq
returns-then-eq c = sym (named_pipe c.args.word.now c.utf8.word (sym c.eq.ensures ∙ c.if-eq.true))

pub returns-then-eq-2 : goal.returns-then-eq-2
returns-then-eq-2 c = sym (named_by c.args.word.now false true c.utf8.word (sym c.eq.ensures ∙ c.if-eq.false) (sym c.eq-else-eq.ensures ∙ c.if-eq-2.true))

pub returns-else-eq-2 : goal.returns-else-eq-2
returns-else-eq-2 c = sym (named_by c.args.word.now false false c.utf8.word (sym c.eq.ensures ∙ c.if-eq.false) (sym c.eq-else-eq.ensures ∙ c.if-eq-2.false))
