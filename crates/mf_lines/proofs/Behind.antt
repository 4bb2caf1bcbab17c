-- Bytes that are read behind those that wait.
use Rattle.std.proofs.Common.{◌≡◌, ℕ, ◌+◌, ◌-◌, ◌≤◌, List, ◌++◌, length, take, drop, ap, sym, ◌∙◌, arith, append_assoc, length-take, length-drop}
use Rattle.std.proofs.Math.Seq.{take-append-add}
use Rattle.std.proofs.lemmas.List.{drop-append-le, length-take-le, take-append-le, take-take}

module _ (memory new post others : List ℕ) (size start end count : ℕ) (ordered : start ≤ end) (inside : end ≤ length memory) (some : count ≤ length new) where
  -- a front of memory of which some was written behind the end
  front : take (length (take end memory) + count) ((take end memory ++ (new ++ post)) ++ others) ≡ take end memory ++ take count new
  front =
      ap (take (length (take end memory) + count)) (append_assoc (take end memory) (new ++ post) others)
      ∙ take-append-add (take end memory) ((new ++ post) ++ others) count
      ∙ ap (λ bytes. take end memory ++ take count bytes) (append_assoc new post others)
      ∙ ap (λ bytes. take end memory ++ bytes) (take-append-le count new (post ++ others) some)

  -- what waits after some bytes were written behind the end
  pub written_behind : end + count ≤ size
      → drop start (take (end + count) (take size ((take end memory ++ (new ++ post)) ++ others))) ≡ drop start (take end memory) ++ take count new
  written_behind fits =
      let length_front : length (take end memory) ≡ end = length-take-le end memory inside in
      ap (drop start) (take-take (end + count) size ((take end memory ++ (new ++ post)) ++ others) fits)
      ∙ ap (λ n. drop start (take (n + count) ((take end memory ++ (new ++ post)) ++ others))) (sym length_front)
      ∙ ap (drop start) front
      ∙ drop-append-le start (take end memory) (take count new) (omega arith)

-- how many bytes of memory lie behind the end, up to some
pub room_behind : (memory new : List ℕ) (end room : ℕ) → length new ≡ length (take ((end + room) - end) (drop end memory)) → room ≤ length memory - end → length new ≡ room
room_behind memory new end room is fits = omega (arith, is, length-take ((end + room) - end) (drop end memory), length-drop end memory)
