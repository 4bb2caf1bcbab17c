use Rattle.std.proofs.Common.{length, ap, arith}
use Rattle.mf_numfmt.proofs.Lengths.{fraction_length}
use Rattle.mf_numfmt.proofs.length.fraction_text_len.Goals as goal

pub returns : goal.returns
returns c =
    λ n. omega (arith, fraction_length c.args.layout.now c.args.fraction_len n (omega arith), ap length c.as_str.ensures.bytes)
