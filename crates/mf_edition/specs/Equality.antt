-- What an equality has to tell.
use Rattle.std.specs.Prelude.{◌≡◌, Bool}
use Rattle.std.specs.Bool.{Decides}

-- the answer is true exactly where the two are the same
abbrev pub IsExact : {T : Type 0} → (T → T → Bool) → Type 0
IsExact {T} eq = (a b : T) → Decides (eq a b) (a ≡ b)
