-- A run of lines, as far as it has come.
use Rattle.std.proofs.Common.{◌≡◌, ℕ, ◌+◌, List, [], ◌∷◌, ◌++◌, Option, Result, Ok, Err, take, drop, refl, sym, ap, subst, ◌∙◌, arith, append-nil, append_assoc}
use Rattle.std.proofs.lemmas.Result.{on_err_weaker, on_ok_weaker}
use Rattle.std.specs.Io.KnownBytes.{Appends, Keeps}
use Rattle.std.specs.Result.{OnErr, OnOk}
use Rattle.mf_io.proofs.Told.{Appends-nil, Appends-trans, Appends-kept}
use Rattle.mf_io.specs.Known.{TakesFront}
use Rattle.mf_lines.specs.Cut.{IsCut}
use Rattle.mf_lines.specs.Fronts.{IsLineEnd, StopsWithin}
use Rattle.mf_lines.specs.Served.{ended, written, Answering, Served, Serving}
use Rattle.mf_lines.specs.Sessions.{AnswersAll, AnswersInPart}
use Rattle.mf_lines.proofs.Cuts.{cut-more, cut-none, written-append}

written-one : (reply : List ℕ) → written (reply ∷ []) ≡ ended reply
written-one reply = append-nil (ended reply)

-- ---- facts of one outcome of a call

pub when_ok : {T E P : Type 0} (result : Result T E) → P → OnOk result P
when_ok (Ok value) fact = fact
when_ok (Err error) fact = tt

pub when_err : {T E P : Type 0} (result : Result T E) → P → OnErr result P
when_err (Ok value) fact = tt
when_err (Err error) fact = fact

-- ---- with the replies flushed

module _ {State : Type 0} (Serves : Serving State) (before after : State) (a b c : Option (List ℕ)) (lines : List (List ℕ)) where
  pub answers-kept : AnswersAll Serves before after a b lines → Keeps b c → AnswersAll Serves before after a c lines
  answers-kept all kept = record {
    replies = all.replies;
    served = all.served;
    sent = Appends-kept a b c (written all.replies) all.sent kept;
  }

  -- every reply was written, and could not be passed on
  pub unflushed : AnswersAll Serves before after a b lines → Keeps b c → AnswersInPart Serves before after a c lines
  unflushed all kept = record {
    whole = all.replies;
    begun = [];
    one = omega arith;
    served = subst (λ replies. Serves before lines replies after) (sym (append-nil all.replies)) all.served;
    front = [];
    unsent = [];
    cut = refl;
    sent = subst (Appends a c) (sym (append-nil (written all.replies))) (Appends-kept a b c (written all.replies) all.sent kept);
  }

-- ---- one line

module _ {State : Type 0} (Answers : Answering State) (before after : State) (a b : Option (List ℕ)) (line reply : List ℕ) (answered : Answers before line reply after) where
  served_one : Served Answers before (line ∷ []) (reply ∷ []) after
  served_one = (after, answered, refl)

  pub one_whole : {T E : Type 0} (result : Result T E) → OnOk result (Appends a b (ended reply)) → OnOk result (AnswersAll (Served Answers) before after a b (line ∷ []))
  one_whole result sent =
      on_ok_weaker result
      (λ appended. record { replies = reply ∷ []; served = served_one; sent = subst (Appends a b) (sym (written-one reply)) appended })
      sent

  pub one_in_part : {T E : Type 0} (result : Result T E) → OnErr result (TakesFront a b (ended reply))
      → OnErr result (AnswersInPart (Served Answers) before after a b (line ∷ []))
  one_in_part result stopped =
      on_err_weaker result
      (λ part. record {
        whole = [];
        begun = reply ∷ [];
        one = omega arith;
        served = served_one;
        front = part.sent;
        unsent = part.unsent;
        cut = part.whole ∙ sym (written-one reply);
        sent = part.appended;
      })
      stopped

-- ---- some lines and then others

module _ {State : Type 0} (Answers : Answering State) where
  served_join : (from : State) (lines replies more others : List (List ℕ)) (between after : State)
      → Served Answers from lines replies between → Served Answers between more others after → Served Answers from (lines ++ more) (replies ++ others) after
  served_join from [] [] more others between after one two = subst (λ s. Served Answers s more others after) one two
  served_join from [] (reply ∷ replies) more others between after one two = absurd one
  served_join from (line ∷ lines) [] more others between after one two = absurd one
  served_join from (line ∷ lines) (reply ∷ replies) more others between after one two =
      (one.0, one.1, served_join one.0 lines replies more others between after one.2 two)

  pub answers-none : (state : State) (a : Option (List ℕ)) → AnswersAll (Served Answers) state state a a []
  answers-none state a = record { replies = []; served = refl; sent = Appends-nil a }

  module _ (before between after : State) (a b c : Option (List ℕ)) (lines more : List (List ℕ)) (so_far : AnswersAll (Served Answers) before between a b lines) where
    pub answers-more : AnswersAll (Served Answers) between after b c more → AnswersAll (Served Answers) before after a c (lines ++ more)
    answers-more all = record {
      replies = so_far.replies ++ all.replies;
      served = served_join before lines so_far.replies more all.replies between after so_far.served all.served;
      sent = subst (Appends a c) (sym (written-append so_far.replies all.replies))
          (Appends-trans a b c (written so_far.replies) (written all.replies) so_far.sent all.sent);
    }

    pub answers-stopped : AnswersInPart (Served Answers) between after b c more → AnswersInPart (Served Answers) before after a c (lines ++ more)
    answers-stopped part = record {
      whole = so_far.replies ++ part.whole;
      begun = part.begun;
      one = part.one;
      served = subst (λ replies. Served Answers before (lines ++ more) replies after) (sym (append_assoc so_far.replies part.whole part.begun))
          (served_join before lines so_far.replies more (part.whole ++ part.begun) between after so_far.served part.served);
      front = part.front;
      unsent = part.unsent;
      cut = part.cut;
      sent = subst (Appends a c) (sym (append_assoc (written so_far.replies) (written part.whole) part.front)
          ∙ ap (λ w. w ++ part.front) (sym (written-append so_far.replies part.whole)))
          (Appends-trans a b c (written so_far.replies) (written part.whole ++ part.front) so_far.sent part.sent);
    }

-- ---- the whole lines at the front of some bytes

-- some of them were answered, and these bytes are left
pub record Going {State : Type 0} (Serves : Serving State) (before after : State) (taken taken' : Option (List ℕ)) (most : ℕ) (bytes rest : List ℕ) : Type 0 where
  pub lines : List (List ℕ)
  pub cut : IsCut most bytes lines rest
  pub answers : AnswersAll Serves before after taken taken' lines

module _ {State : Type 0} (Answers : Answering State) (before : State) (a : Option (List ℕ)) (most : ℕ) (bytes : List ℕ) where
  pub start : Going (Served Answers) before before a a most bytes bytes
  start = record { lines = []; cut = cut-none most bytes; answers = answers-none Answers before a }

  module _ (between after : State) (b c : Option (List ℕ)) (rest line : List ℕ) (so_far : Going (Served Answers) before between a b most bytes rest)
      (end : ℕ) (at : IsLineEnd most rest end) (is : line ≡ take end rest) where
    cut_on : IsCut most bytes (so_far.lines ++ line ∷ []) (drop (end + 1) rest)
    cut_on =
        cut-more most bytes rest (drop (end + 1) rest) so_far.lines (line ∷ []) so_far.cut
        (subst (λ l. IsCut most rest (l ∷ []) (drop (end + 1) rest)) (sym is) at.cut)

    pub step : (next : List ℕ) → next ≡ drop (end + 1) rest → AnswersAll (Served Answers) between after b c (line ∷ [])
        → Going (Served Answers) before after a c most bytes next
    step next left all = record {
      lines = so_far.lines ++ line ∷ [];
      cut = subst (IsCut most bytes (so_far.lines ++ line ∷ [])) (sym left) cut_on;
      answers = answers-more Answers before between after a b c so_far.lines (line ∷ []) so_far.answers all;
    }

    pub stopped : AnswersInPart (Served Answers) between after b c (line ∷ []) → StopsWithin (Served Answers) before after a c most bytes
    stopped part = record {
      lines = so_far.lines ++ line ∷ [];
      rest = drop (end + 1) rest;
      cut = cut_on;
      answers = answers-stopped Answers before between after a b c so_far.lines (line ∷ []) so_far.answers part;
    }
