-- A word is ASCII text, so its characters are its bytes.
use Rattle.std.proofs.Common.{◌≡◌, ◌∙◌, ℕ, List, Bool, true, false, cond, Option, None, ap, sym, nat_eq, refl}
use Rattle.std.specs.Cmp.Lexicographic.{pointwise}
use Rattle.std.specs.Prelude.{codes, option_map}
use Rattle.std.proofs.lemmas.Str.{IsUtf8-from_is_utf8}
use Rattle.std.specs.Str.{bytes_eq, chars, IsUtf8, is_utf8}
use Rattle.mf_text.proofs.SameTexts.{same_tests}
use Rattle.mf2d.specs.Commands.{command_counted, count_of}
use Rattle.mf2d.specs.declared.command.Command.{Command}
use Rattle.mf2d.specs.declared.command.Command.TheVariants.{Mill}
use Rattle.mf2d.proofs.command.command_counted.Goals as goal

mill_chars : chars (codes "mill") ≡ codes "mill"
unfolding chars
mill_chars = refl

mill_text : IsUtf8 (codes "mill")
unfolding is_utf8 chars lib.Utf8.encode
mill_text = IsUtf8-from_is_utf8 (codes "mill") refl

is_mill : (word : List ℕ) → IsUtf8 word → pointwise nat_eq word (codes "mill") ≡ bytes_eq (chars word) (codes "mill")
is_mill word text = same_tests word (codes "mill") text mill_text ∙ ap (pointwise nat_eq (chars word)) mill_chars

abbrev counted : Bool → List ℕ → Option Command
counted milling number = cond milling (option_map Mill (count_of 100000 number)) None

counted_by : (word number : List ℕ) (milling : Bool) → IsUtf8 word → pointwise nat_eq word (codes "mill") ≡ milling
    → command_counted (chars word) number ≡ counted milling number
unfolding chars
counted_by word number milling text mills = ap (λ (b : Bool). counted b number) (sym (is_mill word text) ∙ mills)

pub returns-in_ok-count_of : goal.returns-in_ok-count_of
returns-in_ok-count_of c =
    ap (option_map Mill) c.in_ok-count_of.ensures ∙ sym (counted_by c.args.word.now c.args.number.now true c.utf8.word (sym c.eq.ensures ∙ c.if-eq.true))

pub returns-else-eq : goal.returns-else-eq
returns-else-eq c = sym (counted_by c.args.word.now c.args.number.now false c.utf8.word (sym c.eq.ensures ∙ c.if-eq.false))
