-- For private clauses: digits as they are written, group by group.
use Rattle.std.specs.Prelude.{ℕ, zero, suc, ◌+◌, ◌-◌, List, [], ◌∷◌, ◌++◌, ◌==◌, if◌then◌else◌}
use Rattle.mf_numfmt.specs.declared.layout.Layout.{Layout}
use Rattle.mf_numfmt.specs.NumberText.{digit_at, digit_character}

-- the digits of n at so many places from a place on, the highest place first
abbrev pub span_text : ℕ → ℕ → ℕ → List ℕ
span_text n from zero = []
span_text n from (suc k) = digit_character (digit_at n (from + k)) ∷ span_text n from k

-- the digits of n at the places from `end` on that are below `place`, and the separator to the right of the lowest of them
abbrev pub group_text : Layout → ℕ → ℕ → ℕ → List ℕ
group_text layout n place end = span_text n end (place - end) ++ (if end == 0 then [] else layout.group)
