-- The operands of a shown number (Unicode TS 35, Part 3, "Operands").
use Rattle.std.specs.Prelude.{ℕ, zero, suc, ◌/◌, ◌%◌, ◌==◌, if◌then◌else◌}
use Rattle.mf_decimal.specs.declared.shown.Shown.{Shown}

-- i, v, f, w and t: the whole part, how many fraction digits are shown and what they write, and the same of those without trailing zeros
pub record Operands : Type 0 where
  pub whole : ℕ
  pub fraction_len : ℕ
  pub fraction : ℕ
  pub trimmed_len : ℕ
  pub trimmed : ℕ

-- how many of so many fraction digits are left where the trailing zeros are dropped
abbrev pub trimmed_len : ℕ → ℕ → ℕ
trimmed_len zero fraction = 0
trimmed_len (suc len) fraction = if fraction % 10 == 0 then trimmed_len len (fraction / 10) else suc len

-- and the number that those write
abbrev pub trimmed : ℕ → ℕ → ℕ
trimmed zero fraction = fraction
trimmed (suc len) fraction = if fraction % 10 == 0 then trimmed len (fraction / 10) else fraction

-- the operands of a shown number, for which its sign doesn't matter
abbrev pub operands_of : Shown → Operands
operands_of shown = record {
  whole = shown.whole;
  fraction_len = shown.fraction_len;
  fraction = shown.fraction;
  trimmed_len = trimmed_len shown.fraction_len shown.fraction;
  trimmed = trimmed shown.fraction_len shown.fraction;
}
