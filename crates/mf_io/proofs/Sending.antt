-- A piece that is written in several calls.
use Rattle.std.proofs.Common.{◌≡◌, ℕ, List, [], ◌++◌, Option, refl, sym, ap, ◌∙◌, append-nil, append_assoc, take, drop, take-append-drop, subst}
use Rattle.std.specs.Io.KnownBytes.{Appends, Keeps}
use Rattle.std.proofs.KnownBytes.{Appends-nil, Appends-trans, Appends-kept}
use Rattle.mf_io.specs.Known.{TakesFront}

-- what is gone from the rest of the piece was appended
pub record Sending (old now : Option (List ℕ)) (piece rest : List ℕ) : Type 0 where
  pub sent : List ℕ
  pub whole : sent ++ rest ≡ piece
  pub appended : Appends old now sent

pub start : (a : Option (List ℕ)) (piece : List ℕ) → Sending a a piece piece
start a piece = record { sent = []; whole = refl; appended = Appends-nil a }

pub step : (a b c : Option (List ℕ)) (piece rest next : List ℕ) (n : ℕ) → Sending a b piece rest → Appends b c (take n rest)
    → next ≡ drop n rest → Sending a c piece next
step a b c piece rest next n so more gone = record {
  sent = so.sent ++ take n rest;
  whole = append_assoc so.sent (take n rest) next ∙ ap (λ t. so.sent ++ (take n rest ++ t)) gone
      ∙ ap (λ t. so.sent ++ t) (take-append-drop n rest) ∙ so.whole;
  appended = Appends-trans a b c so.sent (take n rest) so.appended more;
}

pub stopped : (a b c : Option (List ℕ)) (piece rest : List ℕ) → Sending a b piece rest → Keeps b c → TakesFront a c piece
stopped a b c piece rest so keeps = record {
  sent = so.sent;
  unsent = rest;
  whole = so.whole;
  appended = Appends-kept a b c so.sent so.appended keeps;
}

pub finished : (a b : Option (List ℕ)) (piece rest : List ℕ) → Sending a b piece rest → rest ≡ [] → Appends a b piece
finished a b piece rest so none =
    subst (Appends a b) (sym (append-nil so.sent) ∙ ap (λ t. so.sent ++ t) (sym none) ∙ so.whole) so.appended
