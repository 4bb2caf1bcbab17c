use Rattle.std.proofs.Common.{◌≡◌, ◌++◌, ap, ◌∙◌, arith}
use Rattle.mf_lines.specs.Served.{ended}
use Rattle.mf_mill.specs.Scripts.{english_line, requests_to, stat_line}
use Rattle.mf_mill.proofs.Requests.{one_more}
use Rattle.mf_mill.proofs.script.script.Goals as goal

pub loop-j-preserved : goal.loop-j-preserved
loop-j-preserved c =
    one_more (ended english_line) c.loop-j.input.items c.push_request.new.input.items c.loop-j.j c.loop-j.invariant c.in_ok-push_request.ensures

pub returns : goal.returns
returns c =
    let all : c.loop-j.j ≡ c.args.count = omega (arith, c.loop-j-test.false) in
    c.in_ok-push_line-2.ensures
    ∙ ap (λ l. l ++ ended stat_line) (c.loop-j.invariant ∙ ap (λ n. ended english_line ++ requests_to n) all)
