-- One more part of a text.
use Rattle.std.proofs.Common.{◌≡◌, ℕ, ◌+◌, ◌-◌, ◌^◌, ◌<◌, min, List, [], ◌∷◌, ◌++◌, length, take, get_or, encode_utf8_all, ap, ap₂, sym, append_assoc, encode_utf8, ◌∙◌, arith, length-append}
use Rattle.std.proofs.lemmas.List.{take_more, append-nil}
use Rattle.std.proofs.lemmas.List.Concat.{flat_map-append}
use Rattle.std.proofs.lemmas.Str.{encodes-append, encode_ascii}
use Rattle.mf_parts.specs.Joined.{in_braces, part_text, text_of}
use Rattle.mf_parts.specs.declared.part.Part.{Part}

text_more : (parts : List Part) (i : ℕ) (part : Part) → i < length parts → part ≡ get_or parts i part
    → text_of (take (i + 1) parts) ≡ text_of (take i parts) ++ part_text part
text_more parts i part inside is =
    ap text_of (take_more parts i part inside)
    ∙ flat_map-append part_text (take i parts) (get_or parts i part ∷ [])
    ∙ ap (λ last. text_of (take i parts) ++ last) (append-nil (part_text (get_or parts i part)) ∙ ap part_text (sym is))

pub bytes_more : (parts : List Part) (i : ℕ) (part : Part) → i < length parts → part ≡ get_or parts i part
    → encode_utf8_all (text_of (take (i + 1) parts)) ≡ encode_utf8_all (text_of (take i parts)) ++ encode_utf8_all (part_text part)
bytes_more parts i part inside is =
    ap encode_utf8_all (text_more parts i part inside is) ∙ encodes-append (text_of (take i parts)) (part_text part)

saturated : (total sum next more : ℕ) → total ≡ min sum (2 ^ 64 - 1) → next ≡ min (total + more) (2 ^ 64 - 1) → next ≡ min (sum + more) (2 ^ 64 - 1)
saturated total sum next more is then = omega arith

pub length_more : (parts : List Part) (i : ℕ) (part : Part) (total next more : ℕ) → i < length parts → part ≡ get_or parts i part
    → total ≡ min (length (encode_utf8_all (text_of (take i parts)))) (2 ^ 64 - 1) → next ≡ min (total + more) (2 ^ 64 - 1)
    → more ≡ length (encode_utf8_all (part_text part))
    → next ≡ min (length (encode_utf8_all (text_of (take (i + 1) parts)))) (2 ^ 64 - 1)
length_more parts i part total next more inside is so_far then adds =
    saturated total (length (encode_utf8_all (text_of (take i parts)))) next more so_far then
    ∙ ap (λ n. min n (2 ^ 64 - 1))
    (ap (λ n. length (encode_utf8_all (text_of (take i parts))) + n) adds
    ∙ sym (length-append (encode_utf8_all (text_of (take i parts))) (encode_utf8_all (part_text part)))
    ∙ ap length (sym (bytes_more parts i part inside is)))

-- the bytes of a text in braces, and how many they are
braced : (text : List ℕ) → encode_utf8_all (in_braces text) ≡ encode_utf8 123 ++ (encode_utf8_all text ++ encode_utf8 125)
braced text =
    ap (λ bytes. encode_utf8 123 ++ bytes)
    (encodes-append text (125 ∷ []) ∙ ap (λ last. encode_utf8_all text ++ last) (append-nil (encode_utf8 125)))

pub braced_len : (text : List ℕ) → length (encode_utf8_all (in_braces text)) ≡ length (encode_utf8_all text) + 2
braced_len text =
    ap length (braced text)
    ∙ ap₂ (λ first last. length (first ++ (encode_utf8_all text ++ last))) (encode_ascii 123 (omega arith)) (encode_ascii 125 (omega arith))
    ∙ omega (arith, length-append (encode_utf8_all text) (125 ∷ []))

-- a brace, a text and a brace, put at the end one after the other
pub put_in_braces : (text old begun bytes within new : List ℕ) → begun ≡ old ++ encode_utf8 123 → bytes ≡ encode_utf8_all text
    → within ≡ begun ++ bytes → new ≡ within ++ encode_utf8 125 → new ≡ old ++ encode_utf8_all (in_braces text)
put_in_braces text old begun bytes within new begins is goes_on ends =
    ends
    ∙ ap (λ front. front ++ encode_utf8 125) (goes_on ∙ ap₂ (λ front back. front ++ back) begins is)
    ∙ append_assoc (old ++ encode_utf8 123) (encode_utf8_all text) (encode_utf8 125)
    ∙ append_assoc old (encode_utf8 123) (encode_utf8_all text ++ encode_utf8 125)
    ∙ ap (λ back. old ++ back) (sym (braced text))
