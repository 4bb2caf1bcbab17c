-- Lines and replies that turn a desk, one after the other, are those of its one caller.
use Rattle.std.proofs.Common.{ℕ, List, [], ◌∷◌, refl, sym, subst}
use Rattle.mf_lines.specs.Served.{Served}
use Rattle.mf_transcript.specs.Sole.{opened, Desk, Moves, Progress, Sole}
use Rattle.mf_session.specs.Turns.{Turns}
use Rattle.mf_session.proofs.Agreeing.{agrees_opened, all_contained, moves, Agrees}

-- turns are moves, from where the desk has come to
all_move : (lines replies : List (List ℕ)) (progress : Progress) (before after : Desk) → Agrees progress before → Served Turns before lines replies after
    → (end : Progress) × Moves lines replies progress end × Agrees end after
all_move [] [] progress before after agrees served = (progress, refl, subst (Agrees progress) (sym served) agrees)
all_move [] (said ∷ replies) progress before after agrees served = absurd served
all_move (line ∷ lines) [] progress before after agrees served = absurd served
all_move (line ∷ lines) (said ∷ replies) progress before after agrees served =
    let first = moves line said progress before served.0 agrees served.1 in
    let further = all_move lines replies first.0 served.0 after first.2 served.2 in
    (further.0, (first.0, first.1, further.1), further.2)

pub sole : (desk after : Desk) (lines replies : List (List ℕ)) → Served Turns desk lines replies after → Sole desk lines replies after
sole desk after lines replies served =
    let moved = all_move lines replies (opened desk) desk after (agrees_opened desk) served in
    record {
      end = moved.0;
      moves = moved.1;
      log = moved.2.log;
      ready = all_contained moved.0.served after.ready moved.2.served;
    }
