-- Names in Normalization Form C with their values, in the byte order of the names.
use Rattle.std.specs.Prelude.{ℕ, List, Option, Some, None, is_some, if◌then◌else◌}
use Rattle.std.specs.BTreeMap.{is_at, insert_entry}
use Rattle.std.specs.List.{AllByRecursion}
use Rattle.std.specs.Map.{lookup}
use Rattle.unicode_normalization.specs.Forms.{IsInForm, Nfc}
use Rattle.mf_text.specs.Order.{byte_cmp}

-- the value of a name, if it has one
abbrev pub argument_named : {V : Type 0} → List (List ℕ × V) → List ℕ → Option V
argument_named arguments name = lookup (is_at (byte_cmp name)) arguments

-- the arguments with this value for the name
abbrev pub with_argument : {V : Type 0} → List (List ℕ × V) → List ℕ → V → List (List ℕ × V)
with_argument arguments name value = insert_entry byte_cmp arguments name value

-- the arguments and one more, none where its name stands among them already
abbrev pub with_new_argument : {V : Type 0} → List (List ℕ × V) → List ℕ → V → Option (List (List ℕ × V))
with_new_argument arguments name value = if is_some (argument_named arguments name) then None else Some (with_argument arguments name value)

-- each name is in Normalization Form C (Unicode Standard Annex 15)
abbrev pub AreNormal : {V : Type 0} → List (List ℕ × V) → Type 0
AreNormal arguments = AllByRecursion (λ argument. IsInForm Nfc argument.0) arguments
