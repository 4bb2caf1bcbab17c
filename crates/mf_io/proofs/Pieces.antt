-- What is left of the pieces of a source in memory.
use Rattle.std.proofs.Common.{◌≡◌, ℕ, ◌+◌, ◌≤◌, ◌<◌, List, [], ◌∷◌, ◌++◌, Some, None, refl, sym, ap, ◌∙◌, length, take, drop, min, get_or, arith, add-one, subst, suc, zero, rules, append_assoc, take-append-drop, drop_of_length-le, drop-cons, vec_items}
use Rattle.std.specs.Prelude.{slice_get}
use Rattle.std.specs.List.{concat}
use Rattle.std.specs.Global.{Vec}
use Rattle.std.proofs.lemmas.Grind.{common_steps}
use Rattle.std.proofs.Math.Seq.{take-nil}
use Rattle.std.proofs.lemmas.List.{drop-drop, length-take, take-append-le, take-take}
use Rattle.std.proofs.lemmas.Option.{slice_get_past, slice_get_read, slice_get_within, get_or_from_slice_get}
use Rattle.mf_io.specs.Memory.{Calls, GivesFront, IsNextByte, Supply, at_hand, bytes_of, passed, past_front, pieces_from, without_front}

-- ---- a place among the vectors

-- the same bytes are left from a place as in these pieces
pub record SameBytes (vectors : List (Vec ℕ)) (number byte : ℕ) (left : List (List ℕ)) : Type 0 where
  pub hand : at_hand (pieces_from number byte vectors) ≡ at_hand left
  pub past : (n : ℕ) → past_front n (pieces_from number byte vectors) ≡ past_front n left

pub start : (vectors : List (Vec ℕ)) (number byte : ℕ) → SameBytes vectors number byte (pieces_from number byte vectors)
start vectors number byte = record { hand = refl; past = λ n. refl }

-- a vector, and those behind it
drop-found : (vectors : List (Vec ℕ)) (number : ℕ) (vector : Vec ℕ) → slice_get vectors number ≡ Some vector
    → drop number vectors ≡ vector ∷ drop (number + 1) vectors
drop-found vectors number vector found =
    let inside : number < length vectors = slice_get_within vectors number vector found in
    rw add-one (drop-cons vectors number vector inside ∙ ap (λ v. v ∷ drop (suc number) vectors) (get_or_from_slice_get vectors number vector vector found))

without_front-zero : (pieces : List (List ℕ)) → without_front 0 pieces ≡ pieces
without_front-zero [] = refl
without_front-zero (first ∷ rest) = refl

pieces_from-found : (vectors : List (Vec ℕ)) (number byte : ℕ) (vector : Vec ℕ) → slice_get vectors number ≡ Some vector
    → pieces_from number byte vectors ≡ drop byte (vec_items vector) ∷ bytes_of (drop (number + 1) vectors)
pieces_from-found vectors number byte vector found = ap (λ vs. without_front byte (bytes_of vs)) (drop-found vectors number vector found)

-- past a vector with no byte left
pub skip : (vectors : List (Vec ℕ)) (number byte : ℕ) (vector : Vec ℕ) (left : List (List ℕ)) → slice_get vectors number ≡ Some vector
    → length (vec_items vector) ≤ byte → SameBytes vectors number byte left → SameBytes vectors (number + 1) 0 left
skip vectors number byte vector left found short so =
    let empty : pieces_from number byte vectors ≡ [] ∷ pieces_from (number + 1) 0 vectors =
    pieces_from-found vectors number byte vector found
    ∙ ap (λ front. front ∷ bytes_of (drop (number + 1) vectors)) (drop_of_length-le (vec_items vector) {i = byte} short)
    ∙ ap (λ rest. [] ∷ rest) (sym (without_front-zero (bytes_of (drop (number + 1) vectors)))) in
    record {
      hand = sym (ap at_hand empty) ∙ so.hand;
      past = λ n. sym (ap (past_front n) empty) ∙ so.past n;
    }

at_hand-full : (first : List ℕ) (rest : List (List ℕ)) → 0 < length first → at_hand (first ∷ rest) ≡ first
at_hand-full [] rest full = absurd (omega (arith, full))
at_hand-full (byte ∷ bytes) rest full = refl

past_front-full : (n : ℕ) (first : List ℕ) (rest : List (List ℕ)) → 0 < length first → past_front n (first ∷ rest) ≡ drop n first ∷ rest
past_front-full n [] rest full = absurd (omega (arith, full))
past_front-full n (byte ∷ bytes) rest full = refl

-- at a place with a byte, the piece at hand is the rest of that vector
at_hand-found : (vectors : List (Vec ℕ)) (number byte : ℕ) (vector : Vec ℕ) (left : List (List ℕ)) → slice_get vectors number ≡ Some vector
    → byte < length (vec_items vector) → IsNextByte vectors number byte left → at_hand left ≡ drop byte (vec_items vector)
at_hand-found vectors number byte vector left found inside so =
    let full : 0 < length (drop byte (vec_items vector)) = grind (arith, common_steps) in
    sym so.same_hand ∙ ap at_hand (pieces_from-found vectors number byte vector found) ∙ at_hand-full _ _ full

past_front-found : (vectors : List (Vec ℕ)) (number byte n : ℕ) (vector : Vec ℕ) (left : List (List ℕ)) → slice_get vectors number ≡ Some vector
    → byte < length (vec_items vector) → IsNextByte vectors number byte left → pieces_from number (byte + n) vectors ≡ past_front n left
past_front-found vectors number byte n vector left found inside so =
    let full : 0 < length (drop byte (vec_items vector)) = grind (arith, common_steps) in
    pieces_from-found vectors number (byte + n) vector found
    ∙ ap (λ front. front ∷ bytes_of (drop (number + 1) vectors)) (sym (drop-drop n byte (vec_items vector)))
    ∙ sym (past_front-full n _ _ full)
    ∙ sym (ap (past_front n) (pieces_from-found vectors number byte vector found))
    ∙ so.same_past n

drop-missing : (vectors : List (Vec ℕ)) (number : ℕ) → slice_get vectors number ≡ None → drop number vectors ≡ []
drop-missing [] number missing = drop_of_length-le [] {i = number} (search rules)
drop-missing (first ∷ rest) zero missing = absurd (cc)
drop-missing (first ∷ rest) (suc number) missing = drop-missing rest number missing

-- at a place behind the vectors nothing is at hand
at_hand-missing : (vectors : List (Vec ℕ)) (number byte : ℕ) (left : List (List ℕ)) → slice_get vectors number ≡ None
    → IsNextByte vectors number byte left → at_hand left ≡ []
at_hand-missing vectors number byte left missing so =
    sym so.same_hand ∙ ap (λ vs. at_hand (without_front byte (bytes_of vs))) (drop-missing vectors number missing)

past_front-missing : (vectors : List (Vec ℕ)) (number byte n : ℕ) (left : List (List ℕ)) → slice_get vectors number ≡ None
    → IsNextByte vectors number byte left → pieces_from number byte vectors ≡ past_front n left
past_front-missing vectors number byte n left missing so =
    let none : pieces_from number byte vectors ≡ [] = ap (λ vs. without_front byte (bytes_of vs)) (drop-missing vectors number missing) in
    none ∙ sym (ap (past_front n) none) ∙ so.same_past n

-- the same place, for what the source shows
pub next_byte-shown : (vectors items : List (Vec ℕ)) (from at number byte : ℕ) (old : Supply) → vectors ≡ items
    → pieces_from from at items ≡ old.pieces → IsNextByte vectors number byte (pieces_from from at vectors)
    → IsNextByte items number byte old.pieces
next_byte-shown vectors items from at number byte old same shown so =
    subst (IsNextByte items number byte) shown
    (subst (λ (vs : List (Vec ℕ)). IsNextByte vs number byte (pieces_from from at vs)) same so)

-- a read at a place with a byte
pub gives-found : (old : Supply) (vectors : List (Vec ℕ)) (number byte n : ℕ) (vector : Vec ℕ) (calls : Calls) (part before now : List ℕ) (seen : List (Vec ℕ))
    → IsNextByte vectors number byte old.pieces → seen ≡ vectors → number < length seen → vector ≡ get_or seen number vector
    → part ≡ drop byte (vec_items vector) → n ≡ min (length part) (length before) → now ≡ take n part ++ drop n before
    → calls ≡ passed old.calls
    → GivesFront old (record { pieces = pieces_from number (byte + n) vectors; calls = calls }) before now n
gives-found old vectors number byte n vector calls part before now seen so all within read same count given made =
    let found : slice_get vectors number ≡ Some vector =
    subst (λ (vs : List (Vec ℕ)). slice_get vs number ≡ Some vector) all (slice_get_read seen (length seen) number vector refl within read) in
    let inside : byte < length (vec_items vector) = rw found at so.inside in
    let hand : at_hand old.pieces ≡ part = at_hand-found vectors number byte vector old.pieces found inside so ∙ sym same in
    record {
      count = rw hand count;
      given = rw hand given;
      left = rw (past_front-found vectors number byte n vector old.pieces found inside so, made) refl;
    }

-- a read at the end
pub gives-missing : (old : Supply) (vectors : List (Vec ℕ)) (number byte : ℕ) (calls : Calls) (before : List ℕ) (seen : List (Vec ℕ))
    → IsNextByte vectors number byte old.pieces → seen ≡ vectors → length seen ≤ number → calls ≡ passed old.calls
    → GivesFront old (record { pieces = pieces_from number byte vectors; calls = calls }) before before 0
gives-missing old vectors number byte calls before seen so all past made =
    let missing : slice_get vectors number ≡ None =
    subst (λ (vs : List (Vec ℕ)). slice_get vs number ≡ None) all (slice_get_past seen number past) in
    let hand : at_hand old.pieces ≡ [] = at_hand-missing vectors number byte old.pieces missing so in
    record {
      count = rw hand (omega arith);
      given = refl;
      left = rw (past_front-missing vectors number byte 0 old.pieces missing so, made) refl;
    }

-- ---- the bytes that a read gives

concat-front : (n : ℕ) (pieces : List (List ℕ)) → concat pieces ≡ take n (at_hand pieces) ++ concat (past_front n pieces)
concat-front n [] = sym (ap (λ front. front ++ []) (take-nil n))
concat-front n ([] ∷ pieces) = concat-front n pieces
concat-front n ((byte ∷ bytes) ∷ pieces) =
    ap (λ front. front ++ concat pieces) (sym (take-append-drop n (byte ∷ bytes))) ∙ append_assoc (take n (byte ∷ bytes)) (drop n (byte ∷ bytes)) (concat pieces)

past_front-nothing : (n : ℕ) (pieces : List (List ℕ)) → at_hand pieces ≡ [] → past_front n pieces ≡ []
past_front-nothing n [] none = refl
past_front-nothing n ([] ∷ pieces) none = past_front-nothing n pieces none
past_front-nothing n ((byte ∷ bytes) ∷ pieces) none = absurd (cc)

length_zero : (bytes : List ℕ) → length bytes ≤ 0 → bytes ≡ []
length_zero [] short = refl
length_zero (byte ∷ bytes) short = absurd (omega (arith, short))

-- the bytes given and those left are the bytes from before
concat-gives : (old new : Supply) (before now : List ℕ) (n : ℕ) → GivesFront old new before now n
    → concat old.pieces ≡ take n now ++ concat new.pieces
concat-gives old new before now n gives =
    let hand = at_hand old.pieces in
    let short : n ≤ length hand = omega (arith, gives.count) in
    let same : take n now ≡ take n hand =
    ap (take n) gives.given
    ∙ take-append-le n (take n hand) (drop n before) (rw length-take (omega (arith, short)))
    ∙ take-take n n hand (search rules) in
    let rest : new.pieces ≡ past_front n old.pieces = ap (λ supply. supply.pieces) gives.left in
    concat-front n old.pieces ∙ ap (λ front. front ++ concat (past_front n old.pieces)) (sym same)
    ∙ ap (λ pieces. take n now ++ concat pieces) (sym rest)

-- nothing comes for a buffer with room only at the end
concat-nothing : (old new : Supply) (before now : List ℕ) (n : ℕ) → GivesFront old new before now n
    → n ≡ 0 → 0 < length now → concat new.pieces ≡ []
concat-nothing old new before now n gives none room =
    let same : now ≡ before = gives.given ∙ ap (λ m. take m (at_hand old.pieces) ++ drop m before) none in
    let asked : 0 < length before = subst (λ (b : List ℕ). 0 < length b) same room in
    let short : length (at_hand old.pieces) ≤ 0 = omega (arith, gives.count, none, asked) in
    let end : at_hand old.pieces ≡ [] = length_zero (at_hand old.pieces) short in
    ap (λ supply. concat supply.pieces) gives.left ∙ ap concat (past_front-nothing n old.pieces end)

-- what a read does to the bytes that are left
pub concat-read : (old new : Supply) (before now : List ℕ) (n : ℕ) → GivesFront old new before now n
    → (concat old.pieces ≡ take n now ++ concat new.pieces) × (n ≡ 0 → 0 < length now → concat new.pieces ≡ [])
concat-read old new before now n gives = (concat-gives old new before now n gives, concat-nothing old new before now n gives)
