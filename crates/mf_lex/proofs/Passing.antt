-- The characters that were passed, and those that are left.
use Rattle.std.proofs.Common.{◌≡◌, ℕ, ◌-◌, ◌≤◌, List, ◌++◌, ap, sym, ◌∙◌, subst, length, take, chars, arith, append_assoc, length-append}
use Rattle.std.proofs.Math.Seq.{take-append_seam}
use Rattle.std.proofs.lemmas.Str.{chars-append, encodes-chars, IsUtf8-take, IsCharBoundary-at_seam, encodes-append}
use Rattle.std.specs.Prelude.{encode_utf8, encode_utf8_all}
use Rattle.std.specs.List.{slice_range}
use Rattle.std.specs.Str.{IsUtf8, IsCharBoundary}
use Rattle.mf_lex.specs.Cursor.{Place, EndsWith, passed}

-- what stands before a text within a text is a text
pub front_is_text : (text rest front : List ℕ) → IsUtf8 text → IsUtf8 rest → text ≡ front ++ rest → IsUtf8 front
front_is_text text rest front is_text is_rest split =
    subst IsUtf8 (ap (take (length front)) split ∙ take-append_seam front rest)
    (IsUtf8-take text (length front) is_text (IsCharBoundary-at_seam text front rest split is_rest))

take_front : (front rest : List ℕ) → take (length (front ++ rest) - length rest) (front ++ rest) ≡ front
take_front front rest =
    let n : length (front ++ rest) - length rest ≡ length front = omega (arith, length-append front rest) in
    ap (λ k. take k (front ++ rest)) n ∙ take-append_seam front rest

-- the characters passed are those of the bytes passed
pub passed_is : (place : Place) (text rest front : List ℕ) → IsUtf8 text → IsUtf8 rest → text ≡ front ++ rest →
    chars text ≡ place.whole → chars rest ≡ place.left → passed place ≡ chars front
passed_is place text rest front is_text is_rest split whole left =
    let is_front = front_is_text text rest front is_text is_rest split in
    let both : place.whole ≡ chars front ++ place.left = sym whole ∙ ap chars split ∙ chars-append front rest is_front ∙ ap (λ cs. chars front ++ cs) left in
    ap (λ cs. take (length cs - length place.left) cs) both ∙ take_front (chars front) place.left

pub passed_bytes : (place : Place) (text rest front : List ℕ) → IsUtf8 text → IsUtf8 rest → text ≡ front ++ rest →
    chars text ≡ place.whole → chars rest ≡ place.left → length text - length rest ≡ length (encode_utf8_all (passed place))
passed_bytes place text rest front is_text is_rest split whole left =
    let is_front = front_is_text text rest front is_text is_rest split in
    let n : length text - length rest ≡ length front = omega (arith, ap length split, length-append front rest) in
    n
    ∙ ap length (sym (encodes-chars front is_front))
    ∙ ap (λ cs. length (encode_utf8_all cs)) (sym (passed_is place text rest front is_text is_rest split whole left))

pub passed_splits : (place : Place) (text rest front : List ℕ) → IsUtf8 text → IsUtf8 rest → text ≡ front ++ rest →
    chars text ≡ place.whole → chars rest ≡ place.left → place.whole ≡ passed place ++ place.left
passed_splits place text rest front is_text is_rest split whole left =
    let is_front = front_is_text text rest front is_text is_rest split in
    sym whole
    ∙ ap chars split
    ∙ chars-append front rest is_front
    ∙ ap (λ cs. chars front ++ cs) left
    ∙ ap (λ cs. cs ++ place.left) (sym (passed_is place text rest front is_text is_rest split whole left))

-- a text that ends with a character and another text ends with that other one
pub ends_behind : (text before after : List ℕ) (c : ℕ) → EndsWith text before → before ≡ encode_utf8 c ++ after → EndsWith text after
ends_behind text before after c ends step = record {
  front = ends.front ++ encode_utf8 c;
  split = ends.split ∙ ap (λ bs. ends.front ++ bs) step ∙ sym (append_assoc ends.front (encode_utf8 c) after);
}

-- a text whose characters end with those of another text ends with that text
pub text_splits : (text end front : List ℕ) → IsUtf8 text → IsUtf8 end → chars text ≡ front ++ chars end → text ≡ encode_utf8_all front ++ end
text_splits text end front is_text is_end split =
    sym (encodes-chars text is_text)
    ∙ ap encode_utf8_all split
    ∙ encodes-append front (chars end)
    ∙ ap (λ bs. encode_utf8_all front ++ bs) (encodes-chars end is_end)

pub end_fits : (text end : List ℕ) → IsUtf8 text → IsUtf8 end → EndsWith (chars text) (chars end) → length end ≤ length text
end_fits text end is_text is_end ends =
    omega (arith, ap length (text_splits text end ends.front is_text is_end ends.split), length-append (encode_utf8_all ends.front) end)

front_length : (text end front : List ℕ) → text ≡ front ++ end → length text - length end ≡ length front
front_length text end front split = omega (arith, ap length split, length-append front end)

pub end_boundary : (text end : List ℕ) → IsUtf8 text → IsUtf8 end → EndsWith (chars text) (chars end) → IsCharBoundary text (length text - length end)
end_boundary text end is_text is_end ends =
    let split = text_splits text end ends.front is_text is_end ends.split in
    subst (IsCharBoundary text) (sym (front_length text end (encode_utf8_all ends.front) split))
    (IsCharBoundary-at_seam text (encode_utf8_all ends.front) end split is_end)

pub front_is : (text end taken : List ℕ) → IsUtf8 text → IsUtf8 end → EndsWith (chars text) (chars end) →
    taken ≡ slice_range text 0 (length text - length end) → chars text ≡ chars taken ++ chars end
front_is text end taken is_text is_end ends is =
    let bytes = encode_utf8_all ends.front in
    let split = text_splits text end ends.front is_text is_end ends.split in
    let all : taken ≡ bytes =
    is
    ∙ ap (λ k. take k text) (let n : length text - length end - 0 ≡ length bytes = omega (arith, front_length text end bytes split) in n)
    ∙ ap (take (length bytes)) split
    ∙ take-append_seam bytes end in
    let whole : text ≡ taken ++ end = split ∙ ap (λ bs. bs ++ end) (sym all) in
    ap chars whole ∙ chars-append taken end (front_is_text text end taken is_text is_end whole)
