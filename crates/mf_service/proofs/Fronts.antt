-- A piece is written, and then another.
use Rattle.std.proofs.Common.{◌≡◌, ◌∙◌, ℕ, List, [], ◌∷◌, ◌++◌, Option, Result, Ok, Err, OnErr, OnOk, refl, ap, sym, subst, codes, decimal}
use Rattle.std.proofs.lemmas.List.{append_assoc}
use Rattle.std.specs.Io.KnownBytes.{Appends}
use Rattle.mf_io.specs.Known.{TakesFront}
use Rattle.mf_io.proofs.Told.{Appends-trans, TakesFront-after, TakesFront-longer}
use Rattle.mf_lines.specs.Served.{ended}
use Rattle.mf_serve.specs.declared.tallies.Tally.{Tally}
use Rattle.mf_service.specs.Summaries.{summary}

module _ {A E : Type 0} (a b c : Option (List ℕ)) (piece text more : List ℕ) (result : Result A E) where
  pub stopped_after : Appends a b piece → text ≡ more → OnErr result (TakesFront b c text) → OnErr result (TakesFront a c (piece ++ more))
  stopped_after = by result
    where
      by : (r : Result A E) → Appends a b piece → text ≡ more → OnErr r (TakesFront b c text) → OnErr r (TakesFront a c (piece ++ more))
      by (Ok done) all is front = tt
      by (Err error) all is front = TakesFront-after a b c piece more all (subst (TakesFront b c) is front)

  pub sent_after : Appends a b piece → text ≡ more → OnOk result (Appends b c text) → OnOk result (Appends a c (piece ++ more))
  sent_after = by result
    where
      by : (r : Result A E) → Appends a b piece → text ≡ more → OnOk r (Appends b c text) → OnOk r (Appends a c (piece ++ more))
      by (Ok done) all is rest = Appends-trans a b c piece more all (subst (Appends b c) is rest)
      by (Err error) all is rest = tt

pub on_err : {A E : Type 0} (result : Result A E) (P : Type 0) → P → OnErr result P
on_err (Ok done) P holds = tt
on_err (Err error) P holds = holds

-- a piece and a number, moved to the front
moved : (piece digits rest more last : List ℕ) → rest ++ last ≡ more → (piece ++ (digits ++ rest)) ++ last ≡ (piece ++ digits) ++ more
moved piece digits rest more last is =
    append_assoc piece (digits ++ rest) last ∙ ap (λ l. piece ++ l) (append_assoc digits rest last ∙ ap (λ l. digits ++ l) is)
    ∙ sym (append_assoc piece digits more)

abbrev first_of : Tally → List ℕ
first_of tally = codes "{\"ended\":" ++ decimal tally.ended

abbrev second_of : Tally → List ℕ
second_of tally = codes ",\"faulted\":" ++ decimal tally.faulted

abbrev third_of : Tally → List ℕ
third_of tally = codes ",\"ok\":\"serve\",\"refused\":" ++ decimal tally.refused

-- the line, as it is written
pieces : (tally : Tally) → ended (summary tally) ≡ first_of tally ++ (second_of tally ++ (third_of tally ++ codes "}\n"))
pieces tally =
    moved (codes "{\"ended\":") (decimal tally.ended) _ _ (10 ∷ [])
    (moved (codes ",\"faulted\":") (decimal tally.faulted) _ _ (10 ∷ [])
    (moved (codes ",\"ok\":\"serve\",\"refused\":") (decimal tally.refused) (codes "}") (codes "}\n") (10 ∷ []) refl))

module _ (tally : Tally) (a b c d e : Option (List ℕ)) where
  pub stops_first : TakesFront a b (first_of tally) → TakesFront a b (ended (summary tally))
  stops_first front = subst (TakesFront a b) (sym (pieces tally)) (TakesFront-longer a b (first_of tally) _ front)

  pub stops_second : Appends a b (first_of tally) → TakesFront b c (second_of tally) → TakesFront a c (ended (summary tally))
  stops_second one front =
      subst (TakesFront a c) (sym (pieces tally))
      (TakesFront-after a b c (first_of tally) (second_of tally ++ (third_of tally ++ codes "}\n")) one
      (TakesFront-longer b c (second_of tally) (third_of tally ++ codes "}\n") front))

  pub stops_third : Appends a b (first_of tally) → Appends b c (second_of tally) → TakesFront c d (third_of tally)
      → TakesFront a d (ended (summary tally))
  stops_third one two front =
      subst (TakesFront a d) (sym (pieces tally))
      (TakesFront-after a b d (first_of tally) (second_of tally ++ (third_of tally ++ codes "}\n")) one
      (TakesFront-after b c d (second_of tally) (third_of tally ++ codes "}\n") two
      (TakesFront-longer c d (third_of tally) (codes "}\n") front)))

  pub stops_last : {A E : Type 0} (result : Result A E) → Appends a b (first_of tally) → Appends b c (second_of tally) → Appends c d (third_of tally)
      → OnErr result (TakesFront d e (codes "}\n")) → OnErr result (TakesFront a e (ended (summary tally)))
  stops_last (Ok done) one two three front = tt
  stops_last (Err error) one two three front =
      subst (TakesFront a e) (sym (pieces tally))
      (TakesFront-after a b e (first_of tally) (second_of tally ++ (third_of tally ++ codes "}\n")) one
      (TakesFront-after b c e (second_of tally) (third_of tally ++ codes "}\n") two
      (TakesFront-after c d e (third_of tally) (codes "}\n") three front)))

  pub sends_all : {A E : Type 0} (result : Result A E) → Appends a b (first_of tally) → Appends b c (second_of tally) → Appends c d (third_of tally)
      → OnOk result (Appends d e (codes "}\n")) → OnOk result (Appends a e (ended (summary tally)))
  sends_all (Err error) one two three last = tt
  sends_all (Ok done) one two three last =
      subst (Appends a e) (sym (pieces tally))
      (Appends-trans a b e (first_of tally) (second_of tally ++ (third_of tally ++ codes "}\n")) one
      (Appends-trans b c e (second_of tally) (third_of tally ++ codes "}\n") two
      (Appends-trans c d e (third_of tally) (codes "}\n") three last)))
