-- Sessions that took the same bytes.
use Rattle.std.proofs.Common.{◌≡◌, ℕ, List, ap, subst}
use Rattle.mf_lines.proofs.Once.{cuts_once}
use Rattle.mf_lines.specs.Served.{written}
use Rattle.mf_session.specs.Laws.{CutInputsHaveOneOutput, WholeInputsHaveOneOutput}
use Rattle.mf_transcript.proofs.Once.{soles_once}
use Rattle.mf_transcript.specs.Laws.{HasNoMemoryLine}
use Rattle.mf_transcript.specs.Sole.{Desk, Sole}
use Rattle.mf_wire.specs.Lines.{lines_of}

same_lines : (desk one other : Desk) (lines more replies others : List (List ℕ)) → lines ≡ more → HasNoMemoryLine replies → HasNoMemoryLine others
    → Sole desk lines replies one → Sole desk more others other → (written replies ≡ written others) × (one.log ≡ other.log)
same_lines desk one other lines more replies others same calm quiet a b =
    let outcome = soles_once desk one other more replies others calm quiet (subst (λ lines. Sole desk lines replies one) same a) b in
    (ap written outcome.0, outcome.1)

pub whole_inputs : WholeInputsHaveOneOutput
whole_inputs caps desk one other left left' taken taken' source source' sink sink' a b same calm quiet =
    same_lines desk one other (lines_of a.input) (lines_of b.input) a.answers.replies b.answers.replies (ap lines_of same) calm quiet
    a.answers.served b.answers.served

pub cut_inputs : CutInputsHaveOneOutput
cut_inputs caps desk one other left left' taken taken' source source' sink sink' input rest more a b short long calm quiet =
    same_lines desk one other a.lines b.lines a.answers.replies b.answers.replies
    (cuts_once caps.line input rest more a.lines b.lines a.cut short b.cut long).0 calm quiet a.answers.served b.answers.served
