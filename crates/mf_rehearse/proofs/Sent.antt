-- A caller that has sent its requests.
use Rattle.std.proofs.Common.{◌≡◌, ◌∙◌, ℕ, ◌+◌, ◌≤◌, ◌==◌, ◌||◌, Bool, true, false, List, [], ◌∷◌, ◌++◌, length, take, Option, Some, refl, ap, sym, subst, arith, if◌then◌else◌}
use Rattle.std.specs.List.{list_any, AllByRecursion}
use Rattle.std.proofs.lemmas.List.{length-append}
use Rattle.atomic_table.specs.Seated.{TableId}
use Rattle.mf_edition.specs.declared.change.Entry.{Entry}
use Rattle.mf_hub.proofs.Accounts.{made_is}
use Rattle.mf_hub.specs.Passes.{PassState}
use Rattle.mf_legal.specs.Calls.{made_by}
use Rattle.mf_lines.proofs.Cuts.{lines_of-cut}
use Rattle.mf_lines.specs.Cut.{IsLine, IsOneLine}
use Rattle.mf_lines.specs.Served.{written}
use Rattle.mf_session.specs.Sharing.{Told}
use Rattle.mf_transcript.specs.Served.{in_edition, served_by, with_edition}
use Rattle.mf_transcript.specs.Steps as steps
use Rattle.mf_transcript.specs.Steps.{gets, makes, sees, Standing, Step}
use Rattle.mf_transcript.specs.Transcripts.{stands_at, Steps, Transcript}
use Rattle.mf_wire.specs.Lines.{line_feed, lines_of}
use Rattle.mf_rehearse.specs.Played.{Plays}
use Rattle.mf_rehearse.specs.Playing.{AreShort, IsReady, IsTold}
use Rattle.mf_rehearse.specs.Rehearsals.{rehearse_caps}
use Rattle.mf_rehearse.specs.Scripts.{behind_name, is_named, request_in, requests_of}
use Rattle.mf_rehearse.specs.Scripts as scripts
use Rattle.mf_rehearse.proofs.Pieces.{append_nil}

-- ---- the requests of a caller are lines

short_rest : (line : List ℕ) → IsLine rehearse_caps.line line → IsLine rehearse_caps.line (behind_name line)
short_rest [] is = is
short_rest (digit ∷ []) is = record { short = omega arith; one = refl }
short_rest (digit ∷ space ∷ rest) is = record { short = (let h = is.short in omega arith); one = tail (digit == line_feed) (space == line_feed) is.one }
  where
    tail : (a b : Bool) → (a || (b || list_any (λ byte. byte == line_feed) rest)) ≡ false → list_any (λ byte. byte == line_feed) rest ≡ false
    tail true b is = cc
    tail false true is = cc
    tail false false is = is

short_request : (line : List ℕ) → IsLine rehearse_caps.line line → IsLine rehearse_caps.line (request_in line)
short_request line is = by (is_named line)
  where
    by : (b : Bool) → IsLine rehearse_caps.line (if b then behind_name line else line)
    by true = short_rest line is
    by false = is

short_requests : (caller : ℕ) (lines : List (List ℕ)) → AreShort lines → AreShort (requests_of caller lines)
short_requests caller [] short = tt
short_requests caller (line ∷ lines) short = by (short_requests caller lines short.1) (scripts.caller_of line == caller)
  where
    by : AreShort (requests_of caller lines) → (b : Bool)
        → AreShort (if b then request_in line ∷ requests_of caller lines else requests_of caller lines)
    by rest true = (short_request line short.0, rest)
    by rest false = rest

-- lines that were written are read again
again : (most : ℕ) (lines : List (List ℕ)) → AllByRecursion (IsLine most) lines → lines_of (written lines) ≡ lines
again most lines each =
    lines_of-cut most (written lines) [] lines (record { whole = sym (append_nil (written lines)); each = each })
    ∙ nothing lines
  where
    nothing : (lines : List (List ℕ)) → lines ++ [] ≡ lines
    nothing [] = refl
    nothing (line ∷ lines) = ap (λ (ls : List (List ℕ)). line ∷ ls) (nothing lines)

pub read_again : (lines : List (List ℕ)) → AreShort lines → lines_of (written lines) ≡ lines
read_again lines short = again rehearse_caps.line lines short

pub lines_again : (lines : List (List ℕ)) → AllByRecursion IsOneLine lines → lines_of (written lines) ≡ lines
lines_again lines each = again (length (written lines)) lines (short_lines (length (written lines)) lines (omega arith) each)
  where
    short_lines : (most : ℕ) (lines : List (List ℕ)) → length (written lines) ≤ most → AllByRecursion IsOneLine lines → AllByRecursion (IsLine most) lines
    short_lines most [] few each = tt
    short_lines most (line ∷ lines) few each =
        let a = length-append (line ++ line_feed ∷ []) (written lines) in
        let b = length-append line (line_feed ∷ []) in
        (record { short = omega (arith, few, a, b); one = each.0 }, short_lines most lines (omega (arith, few, a, b)) each.1)

-- ---- a transcript from an edition on, before which its caller made nothing, is one from the first on

record Lower (log : List Entry) (caller : ℕ) (lines replies : List (List ℕ)) (low after : Standing) : Type 0 where
  pub end : Standing
  pub steps : Steps log caller lines replies low end
  pub edition : end.edition ≤ after.edition
  pub made : end.made ≡ after.made

record LowerStep (log : List Entry) (caller : ℕ) (line said : List ℕ) (low after : Standing) : Type 0 where
  pub end : Standing
  pub step : Step log caller line said low end
  pub edition : end.edition ≤ after.edition
  pub made : end.made ≡ after.made
  pub served : end.served ≡ after.served

module _ (log : List Entry) (caller : ℕ) where
  lower_step : (line said : List ℕ) (before low after : Standing) → low.edition ≤ before.edition → low.made ≡ before.made → low.served ≡ before.served
      → Step log caller line said before after → LowerStep log caller line said low after
  lower_step line said before low after edition made served (steps.no_memory is) =
      record { end = low; step = steps.no_memory is; edition = edition; made = made; served = served }
  lower_step line said before low after edition made served (steps.stands_apart is) =
      record { end = low; step = steps.stands_apart is; edition = edition; made = made; served = served }
  lower_step line said before low after edition made served (steps.is_accepted change k is above within entry) = record {
    end = makes low k;
    step = steps.is_accepted change k is (omega (arith, edition, above)) within
        (entry ∙ ap (λ (m : ℕ). Some (steps.next_entry caller m change)) (sym made));
    edition = omega arith;
    made = ap (λ (m : ℕ). m + 1) made;
    served = served;
  }
  lower_step line said before low after edition made served (steps.is_refused k is from within) = record {
    end = sees low k;
    step = steps.is_refused k is (omega (arith, edition, from)) within;
    edition = omega arith;
    made = made;
    served = served;
  }
  lower_step line said before low after edition made served (steps.is_answered k is from within) = record {
    end = gets low k (served_by log k line);
    step = steps.is_answered k is (omega (arith, edition, from)) within;
    edition = omega arith;
    made = made;
    served = ap (λ (s : List (ℕ × ℕ)). s ++ with_edition k (served_by log k line)) served;
  }
  lower_step line said before low after edition made served (steps.is_counted k is from within) = record {
    end = sees low k;
    step = steps.is_counted k (subst (λ (s : List (ℕ × ℕ)). steps.Counts log k (in_edition k s) line said) (sym served) is) (omega (arith, edition, from)) within;
    edition = omega arith;
    made = made;
    served = served;
  }

  lower : (lines replies : List (List ℕ)) (before low after : Standing) → low.edition ≤ before.edition → low.made ≡ before.made → low.served ≡ before.served
      → Steps log caller lines replies before after → Lower log caller lines replies low after
  lower [] [] before low after edition made served is = record {
    end = low;
    steps = refl;
    edition = (let h = ap (λ (s : Standing). s.edition) is in omega arith);
    made = made ∙ ap (λ (s : Standing). s.made) (sym is);
  }
  lower [] (said ∷ replies) before low after edition made served is = absurd is
  lower (line ∷ lines) [] before low after edition made served is = absurd is
  lower (line ∷ lines) (said ∷ replies) before low after edition made served is =
      let first = lower_step line said before low is.0 edition made served is.1 in
      let rest = lower lines replies is.0 first.end after first.edition first.made first.served is.2 in
      record { end = rest.end; steps = (first.end, first.step, rest.steps); edition = rest.edition; made = rest.made }

  from_first : (from : ℕ) (lines replies : List (List ℕ)) → made_by caller (take from log) ≡ 0 → Transcript caller log from lines replies
      → Transcript caller log 0 lines replies
  from_first from lines replies none is =
      let low = lower lines replies (stands_at caller log from) (stands_at caller log 0) is.end (omega arith) (sym none) refl is.steps in
      record {
        end = low.end;
        steps = low.steps;
        within = (let a = low.edition in let b = is.within in omega arith);
        all = low.made ∙ is.all;
      }

take_front : (front more : List Entry) → take (length front) (front ++ more) ≡ front
take_front [] more = refl
take_front (e ∷ front) more = ap (λ (l : List Entry). e ∷ l) (take_front front more)

same_some : (a b : ℕ) (found : Option ℕ) → found ≡ Some a → found ≡ Some b → a ≡ b
same_some a b found one other = cc

-- ---- what it comes to

module _ (hub : TableId) (lines : List (List ℕ)) (short : AreShort lines) (p q : PassState) (m : ℕ) (sent said : List ℕ)
    (ready : IsReady hub p) (own : p.view.number ≡ Some m) (is : sent ≡ written (requests_of m lines)) (told : IsTold p sent said q) where
  lines_are : lines_of sent ≡ requests_of m lines
  lines_are = ap lines_of is ∙ read_again (requests_of m lines) (short_requests m lines short)

  number_is : told.told.number ≡ m
  number_is = same_some told.told.number m p.view.number told.told.own own

  told_of : Told p (requests_of m lines) told.replies q
  told_of = subst (λ (ls : List (List ℕ)). Told p ls told.replies q) lines_are told.told

  number_of : told_of.number ≡ m
  number_of = same_some told_of.number m p.view.number told_of.own own

  transcript : Transcript m q.view.log 0 (requests_of m lines) told.replies
  transcript =
      let at : take (length p.view.log) q.view.log ≡ p.view.log =
      ap (take (length p.view.log)) (sym told_of.log.1) ∙ take_front p.view.log told_of.log.0 in
      let none : made_by m (take (length p.view.log) q.view.log) ≡ 0 =
      ap (made_by m) at ∙ made_is m p.view.log ∙ ready.all m own ∙ ready.blank.made in
      from_first q.view.log m (length p.view.log) (requests_of m lines) told.replies none
      (subst (λ (n : ℕ). Transcript n q.view.log (length p.view.log) (requests_of m lines) told.replies) number_of told_of.transcript)

  pub plays : Plays lines (record { number = m; replies = told.replies; log = q.view.log; made = q.view.made; given = q.view.given; heard = q.view.heard })
  plays = record {
    transcript = transcript;
    made = told.all m (subst (λ (n : ℕ). q.view.number ≡ Some n) number_of told_of.same);
    given = (let h = told_of.gives.most in let z = ready.blank.given in omega arith);
    quits = told_of.quits;
  }

  pub number_there : q.view.number ≡ Some m
  number_there = subst (λ (n : ℕ). q.view.number ≡ Some n) number_of told_of.same

  pub ended_there : q.view.ended ≡ []
  ended_there = told_of.gives.ended ∙ ready.blank.ended
