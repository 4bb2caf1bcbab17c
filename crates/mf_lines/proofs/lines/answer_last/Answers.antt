-- What isn't empty and has no line feed is one line.
use Rattle.std.proofs.Common.{◌≡◌, ◌∙◌, ◌∷◌, ℕ, List, [], true, false, length, nat_eq, sym, subst, ap}
use Rattle.std.proofs.lemmas.Result.{err_from_is_err_and}
use Rattle.mf_wire.specs.Lines.{lines_of}
use Rattle.mf_lines.specs.Cut.{IsOneLine}
use Rattle.mf_lines.specs.Served.{Served}
use Rattle.mf_lines.specs.Sessions.{AnswersAll, AnswersInPart}
use Rattle.mf_lines.proofs.Answering.{answers-kept, unflushed, when_err, when_ok}
use Rattle.mf_lines.proofs.Cuts.{lines_of-one}
use Rattle.mf_lines.proofs.lines.answer_last.Goals as goal

one_of : (line : List ℕ) → IsOneLine line → nat_eq (length line) 0 ≡ false → line ∷ [] ≡ lines_of line
one_of line one some =
    sym (lines_of-one line one (λ none. let empty : nat_eq (length line) 0 ≡ true = ap (λ (l : List ℕ). nat_eq (length l) 0) none in cc))

pub returns-in_err-answer_line-clause-part : goal.returns-in_err-answer_line-clause-part
returns-in_err-answer_line-clause-part g c =
    let taken = g.K.Sink.taken in
    let p = err_from_is_err_and c.from_residual.result c.from_residual.ensures.1 in
    rw p.1 (
    subst (AnswersInPart (Served g.C.Clerk.answers) c.args.desk.now c.answer_line.new.desk (taken c.args.sink.now) (taken c.answer_line.new.sink))
    (one_of c.args.line.now c.requires (sym c.is_empty.ensures ∙ c.if-is_empty.false)) c.in_err-answer_line.ensures.part)

pub returns-clause-all : goal.returns-clause-all
returns-clause-all g c =
    let taken = g.K.Sink.taken in
    when_ok c.flush.result
    (subst (AnswersAll (Served g.C.Clerk.answers) c.args.desk.now c.answer_line.new.desk (taken c.args.sink.now) (taken c.flush.new.self))
    (one_of c.args.line.now c.requires (sym c.is_empty.ensures ∙ c.if-is_empty.false))
    (answers-kept _ _ _ _ _ _ _ c.in_ok-answer_line.ensures.all c.flush.ensures.bytes))

pub returns-clause-part : goal.returns-clause-part
returns-clause-part g c =
    let taken = g.K.Sink.taken in
    when_err c.flush.result
    (subst (AnswersInPart (Served g.C.Clerk.answers) c.args.desk.now c.answer_line.new.desk (taken c.args.sink.now) (taken c.flush.new.self))
    (one_of c.args.line.now c.requires (sym c.is_empty.ensures ∙ c.if-is_empty.false))
    (unflushed _ _ _ _ _ _ _ c.in_ok-answer_line.ensures.all c.flush.ensures.bytes))
