use Rattle.std.proofs.Common.{◌∙◌, ap, encode_utf8_all, subst}
use Rattle.std.proofs.lemmas.Result.{IfOk-weaker, on_err_weaker}
use Rattle.mf_hub.specs.Passes.{PassState}
use Rattle.mf_session.specs.Sharing.{Call, StaysFree}
use Rattle.mf_wire.specs.Replies.{memory_line}
use Rattle.mf_session.proofs.shared.SharedClerkClerk.answer.Goals as goal

pub returns-clause-ok : goal.returns-clause-ok
returns-clause-ok g c =
    let q = c.answer_shared.new.pass in
    IfOk-weaker c.answer_shared.result _ _
    (λ said is. (
      c.answer_shared.ensures.own ∙ ap (λ (p : PassState). p.hub) c.desk.view_is,
      subst (λ (p : PassState). StaysFree p.view q.view) c.desk.view_is c.answer_shared.ensures.free,
      subst (λ (p : PassState). Call c.args.line.now (encode_utf8_all said) p.view q.view) c.desk.view_is is,
    ))
    c.answer_shared.ensures.ok

pub returns-clause-err : goal.returns-clause-err
returns-clause-err g c =
    let q = c.answer_shared.new.pass in
    on_err_weaker c.answer_shared.result
    (λ is. (
      c.answer_shared.ensures.own ∙ ap (λ (p : PassState). p.hub) c.desk.view_is,
      subst (λ (p : PassState). StaysFree p.view q.view) c.desk.view_is c.answer_shared.ensures.free,
      subst (λ (p : PassState). Call c.args.line.now memory_line p.view q.view) c.desk.view_is is,
    ))
    c.answer_shared.ensures.err
