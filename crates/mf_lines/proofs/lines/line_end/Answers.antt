use Rattle.std.proofs.Common.{arith}
use Rattle.std.proofs.lemmas.List.{take_rest}
use Rattle.mf_lines.proofs.Feeds.{line_found, none_ends, too_long}
use Rattle.mf_lines.proofs.lines.line_end.Goals as goal

pub returns-in_err-end : goal.returns-in_err-end
returns-in_err-end c =
    rw c.from_residual.ensures (
    none_ends c.args.most c.args.known c.args.bytes.now _ (take_rest c.args.bytes.now c.args.known) c.requires.one c.in_err-end.ensures)

pub returns-then-end-most : goal.returns-then-end-most
returns-then-end-most c =
    line_found c.args.most c.args.known c.args.bytes.now _ (take_rest c.args.bytes.now c.args.known) c.requires.one
    c.in_ok-end.field-0 c.in_ok-end.ensures.0.high c.in_ok-end.ensures.0.before
    c.requires.within c.in_ok-end.ensures.1 (omega (arith, c.if-end-most.true))

pub returns-else-end-most : goal.returns-else-end-most
returns-else-end-most c =
    too_long c.args.most c.args.known c.args.bytes.now _ (take_rest c.args.bytes.now c.args.known) c.requires.one
    c.in_ok-end.field-0 c.in_ok-end.ensures.0.high c.in_ok-end.ensures.0.before (omega (arith, c.if-end-most.false))
