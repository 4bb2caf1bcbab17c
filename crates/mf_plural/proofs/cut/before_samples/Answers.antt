use Rattle.std.proofs.Common.{ap, sym, take, ◌==◌, arith}
use Rattle.std.proofs.lemmas.List.{take_all}
use Rattle.mf_plural.proofs.Cutting.{place_is, past_end}
use Rattle.mf_plural.proofs.cut.before_samples.Goals as goal

pub returns-in-Some : goal.returns-in-Some
returns-in-Some c = ap (λ n. take n c.args.text.now) (place_is (λ byte. byte == 64) c.args.text.now c.in-Some.start c.in-Some.ensures).1

pub returns-in-None : goal.returns-in-None
returns-in-None c =
    let end = past_end (λ byte. byte == 64) c.args.text.now c.in-None.ensures in
    sym (take_all _ c.args.text.now (omega (arith, end)))
