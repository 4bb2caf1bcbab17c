-- The entries of a table, each found by the normal form of its key (Unicode Standard Annex 15, Normalization Form C).
use Rattle.std.specs.Prelude.{ℕ, ◌+◌, Bool, List, [], ◌∷◌, ◌++◌, Option, Some, None, encode_utf8_all, if◌then◌else◌}
use Rattle.std.specs.List.{list_any}
use Rattle.std.specs.Str.{bytes_eq}
use Rattle.unicode_normalization.specs.Forms.{nfc}
use Rattle.mf_text.specs.declared.pair.Pair.{Pair}

-- the key of an entry has this normal form
abbrev pub has_form : List ℕ → Pair → Bool
has_form form entry = bytes_eq (encode_utf8_all (nfc entry.name)) (encode_utf8_all form)

-- the text of the first entry whose key has this normal form
abbrev pub text_for : List ℕ → List Pair → Option (List ℕ)
text_for form [] = None
text_for form (entry ∷ others) = if has_form form entry then Some entry.value else text_for form others

-- the place of the first entry whose key has the normal form of an earlier one's
abbrev pub repeated_from : List Pair → ℕ → List Pair → Option ℕ
repeated_from earlier at [] = None
repeated_from earlier at (entry ∷ others) =
    if list_any (has_form (nfc entry.name)) earlier then Some at else repeated_from (earlier ++ entry ∷ []) (at + 1) others

abbrev pub repeated_key : List Pair → Option ℕ
repeated_key entries = repeated_from [] 0 entries

-- the place of the first entry whose key has this normal form: for private clauses
abbrev pub place_from : List ℕ → ℕ → List Pair → Option ℕ
place_from form at [] = None
place_from form at (entry ∷ others) = if has_form form entry then Some at else place_from form (at + 1) others

abbrev pub place_for : List ℕ → List Pair → Option ℕ
place_for form entries = place_from form 0 entries
