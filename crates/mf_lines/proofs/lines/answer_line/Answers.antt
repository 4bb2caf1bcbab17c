-- The bytes that are sent are those of the reply.
use Rattle.std.proofs.Common.{◌∙◌, subst, sym}
use Rattle.mf_wire.specs.Replies.{memory_line}
use Rattle.mf_lines.proofs.Answering.{one_in_part, one_whole}
use Rattle.mf_lines.proofs.lines.answer_line.Goals as goal

pub returns-in-Ok-clause-all : goal.returns-in-Ok-clause-all
returns-in-Ok-clause-all g c =
    let line = c.args.line.now in
    one_whole g.C.Clerk.answers _ _ _ _ line c.as_bytes.result.now
    (subst (λ reply. g.C.Clerk.answers c.args.desk.now line reply c.answer.new.desk) (sym (c.as_bytes.ensures.value ∙ c.as_str.ensures.bytes)) c.in-Ok.ensures.ok)
    c.send_line.result c.send_line.ensures.sent

pub returns-in-Ok-clause-part : goal.returns-in-Ok-clause-part
returns-in-Ok-clause-part g c =
    let line = c.args.line.now in
    one_in_part g.C.Clerk.answers _ _ _ _ line c.as_bytes.result.now
    (subst (λ reply. g.C.Clerk.answers c.args.desk.now line reply c.answer.new.desk) (sym (c.as_bytes.ensures.value ∙ c.as_str.ensures.bytes)) c.in-Ok.ensures.ok)
    c.send_line.result c.send_line.ensures.stopped

pub returns-in-Err-clause-all : goal.returns-in-Err-clause-all
returns-in-Err-clause-all g c =
    one_whole g.C.Clerk.answers _ _ _ _ c.args.line.now memory_line c.in-Err.ensures.err c.send_line-in-Err.result c.send_line-in-Err.ensures.sent

pub returns-in-Err-clause-part : goal.returns-in-Err-clause-part
returns-in-Err-clause-part g c =
    one_in_part g.C.Clerk.answers _ _ _ _ c.args.line.now memory_line c.in-Err.ensures.err c.send_line-in-Err.result c.send_line-in-Err.ensures.stopped
