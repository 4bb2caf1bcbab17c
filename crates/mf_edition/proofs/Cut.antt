-- A text of a tag, an id and a source, cut where they end.
use Rattle.std.proofs.Common.{◌≡◌, ℕ, ◌-◌, List, ◌++◌, length, take, drop, chars, ap, ◌∙◌, subst, sym, arith, append_assoc, length-append}
use Rattle.std.proofs.Math.Seq.{take-append_seam, drop-append_seam}
use Rattle.std.proofs.lemmas.Str.{IsCharBoundary-from_drop, IsUtf8-append}
use Rattle.std.specs.List.{slice_range}
use Rattle.std.specs.Prelude.{IsUtf8}
use Rattle.mf_edition.specs.Items.{AreEnds, item_in}

-- a range that begins at the front
pub front_is : (bytes : List ℕ) (end : ℕ) → slice_range bytes 0 end ≡ take end bytes
front_is bytes end = grind arith

module _ (tag id source : List ℕ) where
  tag_first : (tag ++ id) ++ source ≡ tag ++ (id ++ source)
  tag_first = append_assoc tag id source

  -- what follows the tag and the id
  behind_tag : drop (length tag) ((tag ++ id) ++ source) ≡ id ++ source
  behind_tag = ap (drop (length tag)) tag_first ∙ drop-append_seam tag (id ++ source)

  behind_id : drop (length (tag ++ id)) ((tag ++ id) ++ source) ≡ source
  behind_id = drop-append_seam (tag ++ id) source

  id_is : slice_range ((tag ++ id) ++ source) (length tag) (length (tag ++ id)) ≡ id
  id_is =
      let long = length-append tag id in
      let count : length (tag ++ id) - length tag ≡ length id = omega arith in
      ap (take (length (tag ++ id) - length tag)) behind_tag ∙ ap (λ n. take n (id ++ source)) count ∙ take-append_seam id source

  tag_is : take (length tag) ((tag ++ id) ++ source) ≡ tag
  tag_is = ap (take (length tag)) tag_first ∙ take-append_seam tag (id ++ source)

  pub joined_ends : IsUtf8 id → IsUtf8 source → AreEnds ((tag ++ id) ++ source) (length tag) (length (tag ++ id))
  joined_ends id_text source_text =
      let long = length-append tag id in
      let whole = length-append (tag ++ id) source in
      record {
        order = omega arith;
        tag = IsCharBoundary-from_drop ((tag ++ id) ++ source) (length tag) (omega arith) (subst IsUtf8 (sym behind_tag) (IsUtf8-append id source id_text source_text));
        id = IsCharBoundary-from_drop ((tag ++ id) ++ source) (length (tag ++ id)) (omega arith) (subst IsUtf8 (sym behind_id) source_text);
      }

  pub joined_item : item_in ((tag ++ id) ++ source) (length tag) (length (tag ++ id)) ≡ record { tag = chars tag; id = chars id; source = chars source }
  joined_item = λ i. record { tag = chars (tag_is i); id = chars (id_is i); source = chars (behind_id i) }
