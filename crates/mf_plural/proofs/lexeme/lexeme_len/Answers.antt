use Rattle.std.proofs.Common.{◌∙◌, sym, arith}
use Rattle.mf_plural.proofs.Lexing.{lexeme_here, more_joined}
use Rattle.mf_plural.proofs.lexeme.lexeme_len.Goals as goal

pub loop-len-preserved : goal.loop-len-preserved
loop-len-preserved c =
    let i = c.loop-len.invariant in
    record {
      some = omega (arith, i.some);
      within = omega arith;
      joined = more_joined c.args.text.now c.loop-len.len i.some i.joined (sym c.are_joined.ensures ∙ c.if-are_joined.true);
    }

pub returns-else-are_joined-clause-cut : goal.returns-else-are_joined-clause-cut
returns-else-are_joined-clause-cut c =
    let i = c.loop-len.invariant in
    lexeme_here c.args.text.now c.loop-len.len i.some i.within c.requires.begins i.joined (λ h. sym c.are_joined.ensures ∙ c.if-are_joined.false)

pub returns-after-loop-len-clause-cut : goal.returns-after-loop-len-clause-cut
returns-after-loop-len-clause-cut c =
    let i = c.loop-len.invariant in
    lexeme_here c.args.text.now c.loop-len.len i.some i.within c.requires.begins i.joined (λ h. absurd (omega (arith, h, c.loop-len-test.false)))
