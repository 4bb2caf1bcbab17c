-- What was read is a script, and a rehearsal of it is written.
use Rattle.std.proofs.Common.{◌≡◌, ◌∙◌, ℕ, List, Option, ap, sym, subst}
use Rattle.std.specs.Io.KnownBytes.{Appends}
use Rattle.mf_io.specs.Known.{TakesFront}
use Rattle.mf_wire.specs.Lines.{lines_of}
use Rattle.mf_rehearse.specs.Playing.{AreShort}
use Rattle.mf_rehearse.specs.Rehearsals.{rehearse_caps, IsRehearsal, ReadsLines, RehearsesInPart, RehearsesWhole}
use Rattle.mf_rehearse.proofs.Sent.{read_again}

module _ (left left' : Option (List ℕ)) (lines : List ℕ) (reads : ReadsLines rehearse_caps lines left left') where
  -- the lines that were read, with their line feeds, are those of the input
  same : lines_of lines ≡ lines_of reads.script.input
  same = ap lines_of reads.is ∙ read_again (lines_of reads.script.input) reads.script.each

  pub short : (slice : List ℕ) → slice ≡ lines → AreShort (lines_of slice)
  short slice is = subst AreShort (sym (ap lines_of is ∙ same)) reads.script.each

  module _ (slice output piece : List ℕ) (is : slice ≡ lines) (made : IsRehearsal (lines_of slice) output) (sent : piece ≡ output)
      (taken taken' : Option (List ℕ)) where
    rehearsal : IsRehearsal (lines_of reads.script.input) output
    rehearsal = subst (λ (ls : List (List ℕ)). IsRehearsal ls output) (ap lines_of is ∙ same) made

    pub whole : Appends taken taken' piece → RehearsesWhole rehearse_caps left left' taken taken'
    whole sends = record {
      script = reads.script;
      output = output;
      rehearsal = rehearsal;
      sent = subst (Appends taken taken') sent sends;
    }

    pub part : TakesFront taken taken' piece → RehearsesInPart rehearse_caps left left' taken taken'
    part sends = record {
      script = reads.script;
      output = output;
      rehearsal = rehearsal;
      sent = subst (TakesFront taken taken') sent sends;
    }
