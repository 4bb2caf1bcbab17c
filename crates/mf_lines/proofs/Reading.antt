-- An input that is read and answered, as far as it has come.
use Rattle.std.proofs.Common.{◌≡◌, ◌∙◌, inl, inr, ℕ, ◌+◌, ◌-◌, ◌<◌, ◌≤◌, List, [], ◌++◌, Option, length, length-append, take, drop, refl, sym, ap, subst, arith, append-nil}
use Rattle.std.proofs.Math.Seq.{take-append_seam}
use Rattle.std.proofs.lemmas.List.{nil_from_length}
use Rattle.std.specs.Io.KnownBytes.{IsAtEnd}
use Rattle.std.specs.List.{AllByRecursion}
use Rattle.mf_io.proofs.Told.{Consumes-nil, Consumes-trans}
use Rattle.mf_io.specs.declared.bounds.Caps.{Caps}
use Rattle.mf_wire.specs.Lines.{lines_of}
use Rattle.mf_lines.specs.Cut.{IsCut, IsLine, IsOneLine, IsTooLong}
use Rattle.mf_lines.specs.Fronts.{AnswersFront, HasNoShortLine, StopsWithin}
use Rattle.mf_lines.specs.Served.{Answering, Served}
use Rattle.mf_lines.specs.Sessions.{AnswersAll, AnswersInPart, Ends, Overruns, Stops, Takes}
use Rattle.mf_lines.specs.Waiting.{Reads}
use Rattle.mf_lines.proofs.Answering.{answers-more, answers-none, answers-stopped}
use Rattle.mf_lines.proofs.Cuts.{all-append, cut-grown, cut-more, cut-none, lines_of-cut, rest_each, rest_line, rest_too_long}

-- so many bytes were taken, the lines in front of those that wait were answered
module _ {State : Type 0} (Answers : Answering State) (caps : Caps) (before : State) (left taken : Option (List ℕ)) where
  pub record Reading (after : State) (left' taken' : Option (List ℕ)) (waiting : List ℕ) (count : ℕ) : Type 0 where
    pub input : List ℕ
    pub number : count ≡ length input
    pub within : count ≤ caps.input
    pub takes : Takes (Served Answers) caps before after left left' taken taken' input waiting

  pub start : Reading before left taken [] 0
  start = record {
    input = [];
    number = refl;
    within = omega arith;
    takes = record {
      consumed = Consumes-nil left;
      lines = [];
      cut = cut-none caps.line [];
      answers = answers-none Answers before taken;
    };
  }

  module _ (between : State) (b c : Option (List ℕ)) (waiting : List ℕ) (count : ℕ) (so_far : Reading between b c waiting count) where
    -- more bytes were read
    pub read_more : (b' : Option (List ℕ)) (longer : List ℕ) (n : ℕ) → Reads b b' waiting longer n (caps.input - count)
        → Reading between b' c longer (count + n)
    read_more b' longer n reads =
        let takes = so_far.takes in
        record {
          input = so_far.input ++ reads.part;
          number = omega (arith, so_far.number, reads.number, length-append so_far.input reads.part);
          within = omega (arith, so_far.within, reads.bound);
          takes = record {
            consumed = Consumes-trans left b b' so_far.input reads.part takes.consumed reads.consumed;
            lines = takes.lines;
            cut = subst (IsCut caps.line (so_far.input ++ reads.part) takes.lines) (sym reads.joined)
                (cut-grown caps.line so_far.input waiting reads.part takes.lines takes.cut);
            answers = takes.answers;
          };
        }

    -- ---- how it stops

    pub overruns : IsTooLong caps.line waiting → Overruns (Served Answers) caps before between left b taken c
    overruns long = record {
      input = so_far.input;
      rest = waiting;
      takes = so_far.takes;
      within = omega (arith, so_far.number, so_far.within);
      long = long;
    }

    pub stops : (after : State) (c' : Option (List ℕ)) (seen : List ℕ) → seen ≡ waiting → StopsWithin (Served Answers) between after c c' caps.line seen
        → Stops (Served Answers) caps before after left b taken c'
    stops after c' seen same part =
        let takes = so_far.takes in
        record {
          input = so_far.input;
          lines = takes.lines ++ part.lines;
          rest = part.rest;
          consumed = takes.consumed;
          within = omega (arith, so_far.number, so_far.within);
          cut = inl (cut-more caps.line so_far.input waiting part.rest takes.lines part.lines takes.cut
              (subst (λ bytes. IsCut caps.line bytes part.lines part.rest) same part.cut));
          answers = answers-stopped Answers before between after taken c c' takes.lines part.lines takes.answers part.answers;
        }

    -- ---- at the end of the input

    all_lines : (seen : List ℕ) → seen ≡ waiting → so_far.takes.lines ++ lines_of seen ≡ lines_of so_far.input
    all_lines seen same =
        ap (λ bytes. so_far.takes.lines ++ lines_of bytes) same ∙ sym (lines_of-cut caps.line so_far.input waiting so_far.takes.lines so_far.takes.cut)

    each_line : IsLine caps.line waiting → AllByRecursion (IsLine caps.line) (lines_of so_far.input)
    each_line short =
        subst (AllByRecursion (IsLine caps.line)) (all_lines waiting refl)
        (all-append (IsLine caps.line) so_far.takes.lines (lines_of waiting) so_far.takes.cut.each (rest_each caps.line waiting short))

    pub ends : (after : State) (c' : Option (List ℕ)) → IsAtEnd b → count < caps.input → IsLine caps.line waiting → (seen : List ℕ) → seen ≡ waiting
        → AnswersAll (Served Answers) between after c c' (lines_of seen) → Ends (Served Answers) caps before after left b taken c'
    ends after c' end below short seen same all = record {
      input = so_far.input;
      consumed = so_far.takes.consumed;
      end = end;
      below = omega (arith, so_far.number, below);
      each = each_line short;
      answers = subst (AnswersAll (Served Answers) before after taken c') (all_lines seen same)
          (answers-more Answers before between after taken c c' so_far.takes.lines (lines_of seen) so_far.takes.answers all);
    }

    pub stops_last : (after : State) (c' : Option (List ℕ)) → IsAtEnd b → IsLine caps.line waiting → (seen : List ℕ) → seen ≡ waiting
        → AnswersInPart (Served Answers) between after c c' (lines_of seen) → Stops (Served Answers) caps before after left b taken c'
    stops_last after c' end short seen same part = record {
      input = so_far.input;
      lines = lines_of so_far.input;
      rest = waiting;
      consumed = so_far.takes.consumed;
      within = omega (arith, so_far.number, so_far.within);
      cut = inr (refl, each_line short, end);
      answers = subst (AnswersInPart (Served Answers) before after taken c') (all_lines seen same)
          (answers-stopped Answers before between after taken c c' so_far.takes.lines (lines_of seen) so_far.takes.answers part);
    }

    -- ---- the whole lines among those that wait were answered

    module _ (after : State) (c' : Option (List ℕ)) (seen rest : List ℕ) (same : seen ≡ waiting) (passed : ℕ) (left_over : rest ≡ drop passed waiting)
        (front : AnswersFront (Served Answers) between after c c' caps.line seen passed) where
      rest_of : drop passed seen ≡ rest
      rest_of = ap (drop passed) same ∙ sym left_over

      pub answer_front : Reading after b c' rest count
      answer_front =
          let takes = so_far.takes in
          record {
            input = so_far.input;
            number = so_far.number;
            within = so_far.within;
            takes = record {
              consumed = takes.consumed;
              lines = takes.lines ++ front.lines;
              cut = cut-more caps.line so_far.input waiting rest takes.lines front.lines takes.cut
                  (subst (λ bytes. IsCut caps.line bytes front.lines rest) same (subst (IsCut caps.line seen front.lines) rest_of front.cut));
              answers = answers-more Answers before between after taken c c' takes.lines front.lines takes.answers front.answers;
            };
          }

      pub front_short : length rest ≤ caps.line → IsLine caps.line rest
      front_short short = rest_line caps.line rest (subst (HasNoShortLine caps.line) rest_of front.rest) short

      pub front_long : caps.line < length rest → IsTooLong caps.line rest
      front_long long = rest_too_long caps.line rest (subst (HasNoShortLine caps.line) rest_of front.rest) long

-- ---- the bytes that wait, after a read

pub known_one : (most : ℕ) (bytes longer part : List ℕ) → IsLine most bytes → longer ≡ bytes ++ part → IsOneLine (take (length bytes) longer)
known_one most bytes longer part line joined = subst IsOneLine (sym (ap (take (length bytes)) joined ∙ take-append_seam bytes part)) line.one

pub known_within : (bytes longer part : List ℕ) → longer ≡ bytes ++ part → length bytes ≤ length longer
known_within bytes longer part joined = omega (arith, ap length joined, length-append bytes part)

pub same_line : (most : ℕ) (bytes longer part : List ℕ) (count : ℕ) → IsLine most bytes → longer ≡ bytes ++ part → count ≡ length part → count ≡ 0
    → IsLine most longer
same_line most bytes longer part count line joined number none =
    let empty : part ≡ [] = nil_from_length part (sym number ∙ none) in
    subst (IsLine most) (sym (joined ∙ ap (λ p. bytes ++ p) empty ∙ append-nil bytes)) line

pub start_line : (most : ℕ) (bytes : List ℕ) → bytes ≡ [] → IsLine most bytes
start_line most bytes none = subst (IsLine most) (sym none) (record { short = omega arith; one = refl })
