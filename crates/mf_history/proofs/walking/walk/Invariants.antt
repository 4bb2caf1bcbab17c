use Rattle.std.proofs.Common.{◌≡◌, take}
use Rattle.mf_transcript.specs.Steps.{Standing}
use Rattle.mf_history.specs.Places.{StandsAs}
use Rattle.mf_history.specs.Walks.{Walked}
use Rattle.mf_history.proofs.walking.walk.Given as goal

abbrev pub invariant-loop-exchange : goal.invariant-loop-exchange
invariant-loop-exchange l =
    (l.passed ≡ l.exchange-index)
    × ((before : Standing) → StandsAs l.log l.initial.place before → Walked l.most l.log l.caller (take l.exchange-index l.lines) before l.place)
