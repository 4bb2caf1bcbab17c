-- Steps and moves behind others, and over longer logs.
use Rattle.std.proofs.Common.{◌≡◌, ℕ, zero, suc, ◌≤◌, List, [], ◌∷◌, ◌++◌, length, length-append, Some, refl, sym, subst, arith}
use Rattle.mf_edition.specs.declared.change.Entry.{Entry}
use Rattle.mf_legal.proofs.Fronts.{get_front, take_front}
use Rattle.mf_legal.specs.Calls.{entry_at}
use Rattle.mf_transcript.specs.Asked.{request_of}
use Rattle.mf_transcript.specs.Laws.{MovesFollow, StepsFollow, StepsStay}
use Rattle.mf_transcript.specs.Served.{in_edition}
use Rattle.mf_transcript.specs.Sole.{Moves, Progress}
use Rattle.mf_transcript.specs.Steps.{no_memory, stands_apart, is_accepted, is_refused, is_answered, is_counted, gets, Standing, Step}
use Rattle.mf_transcript.specs.Transcripts.{Steps}
use Rattle.mf_transcript.proofs.Fronts.{answers_same, counts_same, refuses_same, served_same}

pub steps_follow : StepsFollow
steps_follow log caller [] more [] others before between after steps further =
    subst (λ (s : Standing). Steps log caller more others s after) steps further
steps_follow log caller [] more (said ∷ replies) others before between after steps further = absurd steps
steps_follow log caller (line ∷ lines) more [] others before between after steps further = absurd steps
steps_follow log caller (line ∷ lines) more (said ∷ replies) others before between after steps further =
    (steps.0, steps.1, steps_follow log caller lines more replies others steps.0 between after steps.2 further)

pub moves_follow : MovesFollow
moves_follow [] more [] others before between after moves further =
    subst (λ (p : Progress). Moves more others p after) moves further
moves_follow [] more (said ∷ replies) others before between after moves further = absurd moves
moves_follow (line ∷ lines) more [] others before between after moves further = absurd moves
moves_follow (line ∷ lines) more (said ∷ replies) others before between after moves further =
    (moves.0, moves.1, moves_follow lines more replies others moves.0 between after moves.2 further)

module _ (log rest : List Entry) where
  entry_stays : (k : ℕ) (entry : Entry) → entry_at log k ≡ Some entry → entry_at (log ++ rest) k ≡ Some entry
  entry_stays zero entry at = absurd (grind arith)
  entry_stays (suc k) entry at = get_front log rest k entry at

  longer : (k : ℕ) → k ≤ length log → k ≤ length (log ++ rest)
  longer k inside = omega (arith, inside, length-append log rest)

  module _ (caller : ℕ) where
    step_stays : (line said : List ℕ) (before after : Standing) → Step log caller line said before after → Step (log ++ rest) caller line said before after
    step_stays line said before after (no_memory is) = no_memory is
    step_stays line said before after (stands_apart is) = stands_apart is
    step_stays line said before after (is_accepted change k is above inside entry) =
        is_accepted change k is above (longer k inside) (entry_stays k _ entry)
    step_stays line said before after (is_refused k is from inside) =
        is_refused k (refuses_same log (log ++ rest) k k refl (sym (take_front log rest k inside)) line said is) from (longer k inside)
    step_stays line said before after (is_answered k is from inside) =
        subst (λ l. Step (log ++ rest) caller line said before (gets before k l))
        (sym (served_same log (log ++ rest) k k refl (sym (take_front log rest k inside)) (request_of line)))
        (is_answered k (answers_same log (log ++ rest) k k refl (sym (take_front log rest k inside)) line said is) from (longer k inside))
    step_stays line said before after (is_counted k is from inside) =
        is_counted k
        (counts_same log (log ++ rest) k k refl (sym (take_front log rest k inside)) line said (in_edition k before.served) (in_edition k before.served) refl is)
        from (longer k inside)

pub steps_stay : StepsStay
steps_stay log rest caller [] [] before after steps = steps
steps_stay log rest caller [] (said ∷ replies) before after steps = absurd steps
steps_stay log rest caller (line ∷ lines) [] before after steps = absurd steps
steps_stay log rest caller (line ∷ lines) (said ∷ replies) before after steps =
    (steps.0, step_stays log rest caller line said before steps.0 steps.1, steps_stay log rest caller lines replies steps.0 after steps.2)
