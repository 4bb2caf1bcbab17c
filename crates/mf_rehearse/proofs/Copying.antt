-- A script is read whole, or reading it stops.
use Rattle.std.proofs.Common.{◌≡◌, ◌∙◌, ℕ, false, List, [], ◌∷◌, ◌++◌, Option, refl, ap, sym, arith}
use Rattle.std.proofs.lemmas.List.{append_assoc}
use Rattle.mf_io.specs.Faults.{Rose}
use Rattle.mf_io.specs.declared.bounds.Caps.{Caps}
use Rattle.mf_io.specs.declared.statuses.Status.{Status}
use Rattle.mf_io.specs.declared.statuses.Status.TheVariants.{Ended, InputFull, LineTooLong, ListenFault, OutOfMemory, ReadFault, Usage, WriteFault}
use Rattle.mf_lines.specs.Served.{ended, written, Served}
use Rattle.mf_lines.specs.Sessions.{Ends, Outcome}
use Rattle.mf_rehearse.specs.Copies.{Copies}
use Rattle.mf_rehearse.specs.Rehearsals.{ReadsLines, StopsAt}
use Rattle.mf_rehearse.specs.declared.reading.Copied.{Copied}
use Rattle.mf_wire.specs.Lines.{lines_of}
use Rattle.mf_rehearse.proofs.Pieces.{append_nil}

-- all lines are copied, unless one was lost
copied : (lines replies : List (List ℕ)) (before after : Copied) → Served Copies before lines replies after → after.is_lost ≡ false
    → (before.is_lost ≡ false) × (after.lines.items ≡ before.lines.items ++ written lines)
copied [] [] before after served kept =
    (ap (λ (c : Copied). c.is_lost) (sym served) ∙ kept, ap (λ (c : Copied). c.lines.items) served ∙ sym (append_nil before.lines.items))
copied [] (said ∷ replies) before after served kept = absurd served
copied (line ∷ lines) [] before after served kept = absurd served
copied (line ∷ lines) (said ∷ replies) before after served kept =
    let rest = copied lines replies served.0 after served.2 kept in
    let here = served.1 rest.0 in
    (here.0, rest.1 ∙ ap (λ l. l ++ written lines) here.1 ∙ append_assoc before.lines.items (ended line) (written lines))

no_rise : Rose 0 0 → ⊥
no_rise rose = omega (arith, rose)

module _ (caps : Caps) (before after : Copied) (left left' taken taken' : Option (List ℕ)) where
  pub reads_lines : before.lines.items ≡ [] → after.is_lost ≡ false → Ends (Served Copies) caps before after left left' taken taken'
      → ReadsLines caps after.lines.items left left'
  reads_lines none kept ends = record {
    script = record { input = ends.input; consumed = ends.consumed; end = ends.end; below = ends.below; each = ends.each };
    is =
        (copied (lines_of ends.input) ends.answers.replies before after ends.answers.served kept).1
        ∙ ap (λ l. l ++ written (lines_of ends.input)) none;
  }

  pub stops_at : (status : Status) (Unread Unwritten : Type 0) → (status ≡ Ended → ⊥) → (status ≡ WriteFault → Rose 0 0)
      → Outcome (Served Copies) caps before after left left' taken taken' status Unread Unwritten → StopsAt caps left left' status
  stops_at Ended Unread Unwritten other rises ends = absurd (other refl)
  stops_at WriteFault Unread Unwritten other rises stops = absurd (no_rise (rises refl))
  stops_at ReadFault Unread Unwritten other rises breaks = record {
    input = breaks.input;
    rest = breaks.rest;
    consumed = breaks.takes.consumed;
    lines = breaks.takes.lines;
    cut = breaks.takes.cut;
    is = (breaks.below, breaks.short);
  }
  stops_at LineTooLong Unread Unwritten other rises overruns = record {
    input = overruns.input;
    rest = overruns.rest;
    consumed = overruns.takes.consumed;
    lines = overruns.takes.lines;
    cut = overruns.takes.cut;
    is = (overruns.within, overruns.long);
  }
  stops_at InputFull Unread Unwritten other rises fills = record {
    input = fills.input;
    rest = fills.rest;
    consumed = fills.takes.consumed;
    lines = fills.takes.lines;
    cut = fills.takes.cut;
    is = (fills.full, fills.short);
  }
  stops_at OutOfMemory Unread Unwritten other rises refused = tt
  stops_at Usage Unread Unwritten other rises never = never
  stops_at ListenFault Unread Unwritten other rises never = never
