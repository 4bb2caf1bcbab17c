use Rattle.std.proofs.Common.{◌≡◌, ℕ, true, ◌==◌, List, [], ◌∷◌, length, sym, ◌∙◌, arith}
use Rattle.std.proofs.lemmas.Bool.Decides.{nat_tests}
use Rattle.std.specs.Str.{chars}
use Rattle.mf_render.proofs.part.is_empty.Goals as goal

no_chars : (bytes text : List ℕ) → chars bytes ≡ text → length bytes ≡ 0 → text ≡ []
unfolding chars
no_chars [] text e none = sym e
no_chars (b ∷ bs) text e none = absurd (omega arith)

pub returns : goal.returns
returns c h =
    let same : (length c.as_str.result.now == 0) ≡ true = sym c.is_empty.ensures ∙ h in
    no_chars c.as_str.result.now c.args.text.now c.as_str.ensures.characters (grind (arith, nat_tests))
