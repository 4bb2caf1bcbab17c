use Rattle.std.proofs.Common.{◌≡◌, ◌++◌, ◌∷◌, ◌/◌, ◌%◌, rules, ap, ◌∙◌, arith}
use Rattle.std.specs.Prelude.{IfOk, string_bytes}
use Rattle.std.specs.Fmt.{decimal, styled_decimal}
use Rattle.std.proofs.lemmas.Result.{IfOk-weaker}
use Rattle.mf_decimal.specs.Text.{sign_text}
use Rattle.mf_decimal.proofs.ReadBack.{exact_characters}
use Rattle.mf_decimal.proofs.Writing.{text_whole, text_fraction}
use Rattle.mf_decimal.proofs.decimal.Decimal.exact_text.Goals as goal
use Rattle.mf_decimal.proofs.decimal.Decimal.exact_text.Goals.{then-self, else-self}

pub returns-then-self-eq0-clause-bytes : goal.returns-then-self-eq0-clause-bytes
returns-then-self-eq0-clause-bytes c =
    let x = c.args.self.now in
    let sign : c.if-self.sign.now ≡ sign_text x.negative =
    elim c.if-self.branch [ then-self w ↦ rw w.if-self.true (ap (λ b. b.now) w.sign-is) | else-self w ↦ rw w.if-self.false (ap (λ b. b.now) w.sign-is) ] in
    let written : IfOk c.format.result (λ s. string_bytes s ≡ c.if-self.sign.now ++ decimal (x.coefficient / c.ten_to-unit.result)) = search rules in
    IfOk-weaker c.format.result _ _ (λ s e. e ∙ text_whole x.negative x.coefficient x.scale c.ten_to-unit.result c.if-self.sign.now (omega arith) sign c.ten_to-unit.ensures.value) written

pub returns-clause-bytes : goal.returns-clause-bytes
returns-clause-bytes c =
    let x = c.args.self.now in
    let sign : c.if-self.sign.now ≡ sign_text x.negative =
    elim c.if-self.branch [ then-self w ↦ rw w.if-self.true (ap (λ b. b.now) w.sign-is) | else-self w ↦ rw w.if-self.false (ap (λ b. b.now) w.sign-is) ] in
    let fraction = ap (λ s. styled_decimal s (x.coefficient % c.ten_to-unit.result)) c.laid_out.ensures in
    let written : IfOk c.format-2.result (λ s. string_bytes s ≡ c.if-self.sign.now ++ (decimal (x.coefficient / c.ten_to-unit.result) ++ (46 ∷ styled_decimal c.laid_out.result (x.coefficient % c.ten_to-unit.result)))) = search rules in
    IfOk-weaker c.format-2.result _ _
    (λ s e. e ∙ text_fraction x.negative x.coefficient x.scale c.ten_to-unit.result c.if-self.sign.now _ (omega arith) x.near sign c.ten_to-unit.ensures.value fraction) written

pub returns-then-self-eq0-clause-characters : goal.returns-then-self-eq0-clause-characters
returns-then-self-eq0-clause-characters c =
    IfOk-weaker c.format.result _ _ (λ s e. exact_characters c.args.self.now (string_bytes s) e) (returns-then-self-eq0-clause-bytes c)

pub returns-clause-characters : goal.returns-clause-characters
returns-clause-characters c =
    IfOk-weaker c.format-2.result _ _ (λ s e. exact_characters c.args.self.now (string_bytes s) e) (returns-clause-bytes c)
