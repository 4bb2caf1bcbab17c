-- Readers and writers of std's as sources and sinks.
use Rattle.std.specs.Prelude.{ℕ, refl}
use Rattle.std.specs.Coded.{Coded, code_by, coded×, coded_ℕ}

-- a reader or a writer, and how often it has failed
pub record Counted (T : Type 0) : Type 0 where
  pub object : T
  pub faults : ℕ

-- such a pair is stored as a tuple
abbrev pub counted_code : {T : Type 0} → Coded T → Coded (Counted T)
counted_code {T} code =
    code_by (T × ℕ) (coded× code coded_ℕ) (λ c. (c.object, c.faults)) (λ p. record { object = p.0; faults = p.1 }) (λ _. refl)
