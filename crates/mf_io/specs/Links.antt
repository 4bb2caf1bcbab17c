-- What a listener gives, and how many connections it still has.
use Rattle.std.specs.Prelude.{◌≡◌, ℕ, ◌-◌, ◌<◌, List, [], ◌∷◌, Option, Some, None, Result, Ok, Err, ⊤, refl}
use Rattle.std.specs.Coded.{Coded, code_by, coded×, coded_ℕ, coded_list}
use Rattle.mf_io.specs.Memory.{Calls, passed}

-- known connections: one fewer is left where one was given, none comes only where none is left, and a failing call leaves as many
abbrev pub LeavesLinks : {T E : Type 0} → Option ℕ → Option ℕ → Result (Option T) E → Type 0
LeavesLinks None now result = ⊤
LeavesLinks (Some before) now (Ok (Some link)) = (0 < before) × (now ≡ Some (before - 1))
LeavesLinks (Some before) now (Ok None) = (before ≡ 0) × (now ≡ Some 0)
LeavesLinks (Some before) now (Err error) = now ≡ Some before

-- the connections that a listener in memory still gives, in their order, and its calls
pub record Pending (S K : Type 0) : Type 0 where
  pub pairs : List (S × K)
  pub calls : Calls

-- the first connection was given and the others are left, or there was none
abbrev pub GivesFirst : {S K : Type 0} → Pending S K → Pending S K → Option (S × K) → Type 0
GivesFirst old new (Some pair) = (old.pairs ≡ pair ∷ new.pairs) × (new.calls ≡ passed old.calls)
GivesFirst old new None = (old.pairs ≡ []) × (new ≡ record { pairs = []; calls = passed old.calls })

-- calls are stored as a tuple
abbrev pub calls_code : Coded Calls
calls_code = code_by (List ℕ × (ℕ × ℕ)) (coded× (coded_list coded_ℕ) (coded× coded_ℕ coded_ℕ)) (λ c. (c.failing, (c.made, c.faults)))
    (λ p. record { failing = p.0; made = p.1.0; faults = p.1.1 }) (λ _. refl)

-- so are what a listener still gives and its calls
abbrev pub pending_code : {S K : Type 0} → Coded S → Coded K → Coded (Pending S K)
pending_code {S} {K} s k = code_by (List (S × K) × Calls) (coded× (coded_list (coded× s k)) calls_code) (λ l. (l.pairs, l.calls))
    (λ p. record { pairs = p.0; calls = p.1 }) (λ _. refl)
