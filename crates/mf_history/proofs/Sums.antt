-- The requests for sentences that found no memory, by caller and by transcript.
use Rattle.std.proofs.Common.{◌≡◌, ◌⊎◌, inl, inr, ℕ, zero, suc, ◌+◌, ◌<◌, ◌≤◌, ◌&&◌, Bool, true, false, List, [], ◌∷◌, ◌++◌, if◌then◌else◌, refl, ap, sym, arith}
use Rattle.std.proofs.lemmas.Bool.{cases_eq, eq-eqb, ne_eqb}
use Rattle.std.specs.Str.{bytes_eq}
use Rattle.std.proofs.lemmas.Slice.Eq.{bytes_eq-Decides}
use Rattle.mf_legal.specs.Histories.{all_forgone, forgone}
use Rattle.mf_transcript.specs.Lines.{line_service}
use Rattle.mf_wire.specs.Replies.{memory_line}
use Rattle.mf_history.specs.Forgone.{forgone_lines, forgone_total}
use Rattle.mf_history.specs.Records.{bytes_of, callers_of, forgone_in, said_by}
use Rattle.mf_history.specs.declared.transcript.Exchange.{Exchange}
use Rattle.mf_history.specs.declared.transcript.Transcript.{Transcript}

pub not_memory : (said : List ℕ) → (said ≡ memory_line → ⊥) → (b : Bool) → false ≡ (b && bytes_eq said memory_line)
not_memory said other b = by b (bytes_eq said memory_line) refl
  where
    by : (b is : Bool) → bytes_eq said memory_line ≡ is → false ≡ (b && is)
    by false is same = refl
    by true false same = refl
    by true true same = absurd (other ((bytes_eq-Decides said memory_line).0 same))

abbrev forgone_of : List Exchange → ℕ
forgone_of exchanges = forgone line_service (bytes_of exchanges)

forgone_append : (some more : List Exchange) → forgone_of (some ++ more) ≡ forgone_of some + forgone_of more
forgone_append [] more = omega arith
forgone_append (x ∷ some) more = omega (arith, forgone_append some more)

lines_forgone : (exchanges : List Exchange) → forgone_of exchanges ≡ forgone_lines exchanges
lines_forgone [] = refl
lines_forgone (x ∷ exchanges) = omega (arith, lines_forgone exchanges)

abbrev all_of : List Transcript → ℕ → ℕ
all_of transcripts n = all_forgone line_service (λ caller. bytes_of (said_by caller transcripts)) n

none_of : (n : ℕ) → all_of [] n ≡ 0
none_of zero = refl
none_of (suc n) = omega (arith, none_of n)

-- one transcript more, of a caller from a number on, or below it
more_above : (transcript : Transcript) (transcripts : List Transcript) (n : ℕ) → n ≤ transcript.caller → all_of (transcript ∷ transcripts) n ≡ all_of transcripts n
more_above transcript transcripts zero above = refl
more_above transcript transcripts (suc n) above =
    let rest = more_above transcript transcripts n (omega (arith, above)) in
    let none = ap (λ b. forgone_of ((if b then transcript.lines else []) ++ said_by n transcripts)) (ne_eqb transcript.caller n (λ same. omega (arith, same, above))) in
    omega (arith, rest, none)

more_below : (transcript : Transcript) (transcripts : List Transcript) (n : ℕ) → transcript.caller < n
    → all_of (transcript ∷ transcripts) n ≡ forgone_of transcript.lines + all_of transcripts n
more_below transcript transcripts zero below = absurd (omega (arith, below))
more_below transcript transcripts (suc n) below = by (cases_eq transcript.caller n) (more_below transcript transcripts n)
  where
    by : (transcript.caller ≡ n) ⊎ (transcript.caller ≡ n → ⊥) → (transcript.caller < n → all_of (transcript ∷ transcripts) n ≡ forgone_of transcript.lines + all_of transcripts n)
        → all_of (transcript ∷ transcripts) (suc n) ≡ forgone_of transcript.lines + all_of transcripts (suc n)
    by (inl same) further =
        let rest = more_above transcript transcripts n (omega (arith, same)) in
        let here = ap (λ b. forgone_of ((if b then transcript.lines else []) ++ said_by n transcripts)) (eq-eqb transcript.caller n same) in
        omega (arith, rest, here, forgone_append transcript.lines (said_by n transcripts))
    by (inr apart) further =
        let rest = further (omega (arith, below, apart)) in
        let none = ap (λ b. forgone_of ((if b then transcript.lines else []) ++ said_by n transcripts)) (ne_eqb transcript.caller n apart) in
        omega (arith, rest, none)

total_of : (transcripts : List Transcript) (n : ℕ) → callers_of transcripts ≤ n → all_of transcripts n ≡ forgone_total transcripts
total_of [] n above = none_of n
total_of (transcript ∷ transcripts) n above =
    let one = more_below transcript transcripts n (omega (arith, above)) in
    let rest = total_of transcripts n (omega (arith, above)) in
    omega (arith, one, rest, lines_forgone transcript.lines)

pub total_is : (transcripts : List Transcript) → forgone_total transcripts ≡ forgone_in transcripts
total_is transcripts = sym (total_of transcripts (callers_of transcripts) (omega arith))
