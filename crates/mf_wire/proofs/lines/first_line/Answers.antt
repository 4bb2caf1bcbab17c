use Rattle.std.proofs.Common.{ap, ◌∙◌, sym, ◌∷◌, ◌+◌}
use Rattle.std.proofs.lemmas.List.{take_rest}
use Rattle.mf_wire.proofs.FirstLine.{found_line, last_line}
use Rattle.mf_wire.specs.Lines.{lines_of}
use Rattle.std.proofs.Common.{take}
use Rattle.mf_wire.proofs.lines.first_line.Goals as goal

pub returns-in-Some-clause-lines : goal.returns-in-Some-clause-lines
returns-in-Some-clause-lines c =
    let bytes = c.args.input.now in
    let end = c.in-Some.end in
    found_line bytes end c.in-Some.ensures.0.high c.in-Some.ensures.0.before c.in-Some.ensures.1
    ∙ ap (λ rest. take end bytes ∷ lines_of rest) (sym (take_rest bytes (end + 1)))

pub returns-in-None-clause-lines : goal.returns-in-None-clause-lines
returns-in-None-clause-lines c = last_line c.args.input.now c.requires c.in-None.ensures
