use Rattle.std.proofs.Common.{◌≡◌, ◌∙◌, ◌==◌, ℕ, refl, arith, List, Bool, true, false, cond, Option, None, ap, length, nat_eq, nat_lt, sym}
use Rattle.std.proofs.lemmas.Bool.Decides.{nat_tests}
use Rattle.std.specs.Cmp.Lexicographic.{pointwise}
use Rattle.std.specs.Prelude.{◌&&◌, codes, option_map}
use Rattle.std.specs.Str.{chars, IsUtf8}
use Rattle.mf2d.proofs.Words.{is_serve}
use Rattle.mf2d.specs.Commands.{count_of}
use Rattle.mf2d.specs.Shared.{shared_command_limited}
use Rattle.mf2d.specs.declared.shared.SharedCommand.{SharedCommand}
use Rattle.mf2d.specs.declared.shared.SharedCommand.TheVariants.{Serve}
use Rattle.mf2d.proofs.shared.shared_command_limited.Goals.{else-eq-via-else-eq, else-eq-via-then-eq+else-not-is_empty}
use Rattle.mf2d.proofs.shared.shared_command_limited.Goals as goal

abbrev chosen : Bool → List ℕ → Option SharedCommand
chosen serving limit = cond serving (option_map Serve (count_of 1000000 limit)) None

chosen_by : (word address limit : List ℕ) (serving some : Bool) → IsUtf8 word → pointwise nat_eq word (codes "serve") ≡ serving
    → nat_lt 0 (length address) ≡ some → shared_command_limited (chars word) address limit ≡ chosen (serving && some) limit
unfolding chars
chosen_by word address limit serving some text serves is =
    ap (λ (b : Bool). chosen (b && nat_lt 0 (length address)) limit) (sym (is_serve word text) ∙ serves) ∙ ap (λ (b : Bool). chosen (serving && b) limit) is

some_bytes : (n : ℕ) (b : Bool) → b ≡ (n == 0) → b ≡ false → nat_lt 0 n ≡ true
some_bytes n b is other = grind (arith, nat_tests, is, other)

no_bytes : (n : ℕ) (b : Bool) → b ≡ (n == 0) → b ≡ true → nat_lt 0 n ≡ false
no_bytes n b is same = grind (arith, nat_tests, is, same)

pub returns-in_ok-count_of : goal.returns-in_ok-count_of
returns-in_ok-count_of c =
    ap (option_map Serve) c.in_ok-count_of.ensures
    ∙ sym (chosen_by c.args.word.now c.args.address.now c.args.limit.now true true c.utf8.word (sym c.eq.ensures ∙ c.if-eq.true)
    (some_bytes (length c.args.address.now) c.is_empty.result c.is_empty.ensures c.if-not-is_empty.true))

pub returns-else-eq : goal.returns-else-eq
returns-else-eq c = elim c.else-eq.branch [
  | else-eq-via-then-eq+else-not-is_empty w ↦
      sym (chosen_by c.args.word.now c.args.address.now c.args.limit.now true false c.utf8.word (sym c.eq.ensures ∙ w.if-eq.true)
      (no_bytes (length c.args.address.now) w.is_empty.result w.is_empty.ensures w.if-not-is_empty.false))
  | else-eq-via-else-eq w ↦
      sym (chosen_by c.args.word.now c.args.address.now c.args.limit.now false (nat_lt 0 (length c.args.address.now)) c.utf8.word
      (sym c.eq.ensures ∙ w.if-eq.false) refl)
]
