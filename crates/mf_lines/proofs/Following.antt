-- An outcome by one meaning of lines and replies is one by another that follows from it.
use Rattle.std.proofs.Common.{ℕ, List, ◌++◌, Option}
use Rattle.mf_io.specs.declared.bounds.Caps.{Caps}
use Rattle.mf_io.specs.declared.statuses.Status.{Status}
use Rattle.mf_io.specs.declared.statuses.Status.TheVariants.{Ended, InputFull, LineTooLong, ListenFault, OutOfMemory, ReadFault, Usage, WriteFault}
use Rattle.mf_lines.specs.Served.{Serving}
use Rattle.mf_lines.specs.Sessions.{AnswersAll, AnswersInPart, Breaks, Ends, Fills, Outcome, Overruns, Stops, Takes}

module _ {State : Type 0} (Serves Does : Serving State) (caps : Caps) (before after other : State) (left left' taken taken' : Option (List ℕ))
    (follows : (lines replies : List (List ℕ)) → Serves before lines replies after → Does before lines replies other) where
  all_follow : (lines : List (List ℕ)) → AnswersAll Serves before after taken taken' lines → AnswersAll Does before other taken taken' lines
  all_follow lines all = record {
    replies = all.replies;
    served = follows lines all.replies all.served;
    sent = all.sent;
  }

  part_follows : (lines : List (List ℕ)) → AnswersInPart Serves before after taken taken' lines → AnswersInPart Does before other taken taken' lines
  part_follows lines part = record {
    whole = part.whole;
    begun = part.begun;
    one = part.one;
    served = follows lines (part.whole ++ part.begun) part.served;
    front = part.front;
    unsent = part.unsent;
    cut = part.cut;
    sent = part.sent;
  }

  takes_follow : (input rest : List ℕ) → Takes Serves caps before after left left' taken taken' input rest → Takes Does caps before other left left' taken taken' input rest
  takes_follow input rest takes = record {
    consumed = takes.consumed;
    lines = takes.lines;
    cut = takes.cut;
    answers = all_follow takes.lines takes.answers;
  }

  pub ends_follow : Ends Serves caps before after left left' taken taken' → Ends Does caps before other left left' taken taken'
  ends_follow ends = record {
    input = ends.input;
    consumed = ends.consumed;
    end = ends.end;
    below = ends.below;
    each = ends.each;
    answers = all_follow _ ends.answers;
  }

  pub breaks_follow : Breaks Serves caps before after left left' taken taken' → Breaks Does caps before other left left' taken taken'
  breaks_follow breaks = record {
    input = breaks.input;
    rest = breaks.rest;
    takes = takes_follow breaks.input breaks.rest breaks.takes;
    below = breaks.below;
    short = breaks.short;
  }

  pub stops_follow : Stops Serves caps before after left left' taken taken' → Stops Does caps before other left left' taken taken'
  stops_follow stops = record {
    input = stops.input;
    lines = stops.lines;
    rest = stops.rest;
    consumed = stops.consumed;
    within = stops.within;
    cut = stops.cut;
    answers = part_follows stops.lines stops.answers;
  }

  pub overruns_follow : Overruns Serves caps before after left left' taken taken' → Overruns Does caps before other left left' taken taken'
  overruns_follow overruns = record {
    input = overruns.input;
    rest = overruns.rest;
    takes = takes_follow overruns.input overruns.rest overruns.takes;
    within = overruns.within;
    long = overruns.long;
  }

  pub fills_follow : Fills Serves caps before after left left' taken taken' → Fills Does caps before other left left' taken taken'
  fills_follow fills = record {
    input = fills.input;
    rest = fills.rest;
    takes = takes_follow fills.input fills.rest fills.takes;
    full = fills.full;
    short = fills.short;
  }

-- where the state afterwards is the same
module _ {State : Type 0} (Serves Does : Serving State) (caps : Caps) (before after : State) (left left' taken taken' : Option (List ℕ))
    (follows : (lines replies : List (List ℕ)) → Serves before lines replies after → Does before lines replies after) where
  pub outcome_follows : (status : Status) (Unread Unwritten : Type 0) → Outcome Serves caps before after left left' taken taken' status Unread Unwritten
      → Outcome Does caps before after left left' taken taken' status Unread Unwritten
  outcome_follows Ended Unread Unwritten ends = ends_follow Serves Does caps before after after left left' taken taken' follows ends
  outcome_follows ReadFault Unread Unwritten breaks = breaks_follow Serves Does caps before after after left left' taken taken' follows breaks
  outcome_follows WriteFault Unread Unwritten stops = stops_follow Serves Does caps before after after left left' taken taken' follows stops
  outcome_follows LineTooLong Unread Unwritten overruns = overruns_follow Serves Does caps before after after left left' taken taken' follows overruns
  outcome_follows InputFull Unread Unwritten fills = fills_follow Serves Does caps before after after left left' taken taken' follows fills
  outcome_follows OutOfMemory Unread Unwritten refused = refused
  outcome_follows Usage Unread Unwritten never = never
  outcome_follows ListenFault Unread Unwritten never = never
