-- The ranks of keys by a locale tell keys apart.
use Rattle.std.proofs.Common.{◌≡◌, ◌⊎◌, ℕ, true, cond, List, Option, Some, None, encode_utf8_all, sym, ap, ◌∙◌, inl, inr}
use Rattle.std.proofs.lemmas.Bool.{cases_Bool}
use Rattle.std.proofs.lemmas.Str.{encodes_same}
use Rattle.std.specs.Cmp.Lexicographic.{bytes_decides}
use Rattle.std.specs.Str.{bytes_eq}
use Rattle.unicode_normalization.specs.Forms.{nfc}
use Rattle.mf_locale.specs.declared.record.LocaleRecord.{LocaleRecord}
use Rattle.mf_meaning.specs.Numbers.{is_number}
use Rattle.mf_meaning.specs.Ranks.{category_of, content_rank, exact_key, is_category, is_key, is_keyword, keyword_rank, number_rank, rank, text_rank}
use Rattle.mf_plural.specs.Grammar.{keyword_text}
use Rattle.mf_plural.specs.declared.rule.Category.{Category}
use Rattle.mf_value.specs.Selection.{matched}
use Rattle.mf_value.specs.Values.{selects_nothing}
use Rattle.mf_value.specs.declared.called.Ranked.{Ranked}
use Rattle.mf_value.specs.declared.called.Ranked.TheVariants as ranked
use Rattle.mf_value.specs.declared.content.Content.{Content}
use Rattle.mf_value.specs.declared.content.Content.TheVariants as content
use Rattle.mf_value.specs.declared.content.Selects.{Selects}
use Rattle.mf_select.specs.Choosing.{TellsKeys}

same_bytes : (a b : List ℕ) → bytes_eq (encode_utf8_all a) (encode_utf8_all b) ≡ true → a ≡ b
same_bytes a b is = encodes_same a b ((bytes_decides (encode_utf8_all a) (encode_utf8_all b)).0 is)

text_is : (text key : List ℕ) (found : ℕ) → matched (text_rank text key) ≡ Some found → nfc key ≡ nfc text
text_is text key found is = elim (cases_Bool (bytes_eq (encode_utf8_all (nfc key)) (encode_utf8_all (nfc text)))) [
  | inl same ↦ same_bytes (nfc key) (nfc text) same
  | inr differ ↦ let clash : None ≡ Some found = sym (ap (λ b. matched (cond b ranked.Exact ranked.Never)) differ) ∙ is in cc
]

keyword_is : (category : Option Category) (text : List ℕ) (found : ℕ) → matched (keyword_rank category text) ≡ Some found → (found ≡ 1) × (is_category category text ≡ true)
keyword_is category text found is =
    let others : Ranked = cond (is_keyword text) ranked.Never ranked.BadKey in
    elim (cases_Bool (is_category category text)) [
      | inl same ↦
          let one : Some 1 ≡ Some found = sym (ap (λ b. matched (cond b ranked.Keyword others)) same) ∙ is in
          let equal : found ≡ 1 = cc in
          (equal, same)
      | inr differ ↦
          let rest : matched others ≡ Some found = sym (ap (λ b. matched (cond b ranked.Keyword others)) differ) ∙ is in
          elim (cases_Bool (is_keyword text)) [
            | inl keyword ↦ let clash : None ≡ Some found = sym (ap (λ b. matched (cond b ranked.Never ranked.BadKey)) keyword) ∙ rest in cc
            | inr none ↦ let clash : None ≡ Some found = sym (ap (λ b. matched (cond b ranked.Never ranked.BadKey)) none) ∙ rest in cc
          ]
    ]

number_is : (exact : Option (List ℕ)) (category : Option Category) (key : List ℕ) (found : ℕ) → matched (number_rank exact category key) ≡ Some found →
    ((found ≡ 0) × (is_key exact key ≡ true)) ⊎ ((found ≡ 1) × (is_category category (encode_utf8_all key) ≡ true))
number_is exact category key found is =
    let word : Ranked = keyword_rank category (encode_utf8_all key) in
    let others : Ranked = cond (is_number key) ranked.Never word in
    elim (cases_Bool (is_key exact key)) [
      | inl same ↦
          let nought : Some 0 ≡ Some found = sym (ap (λ b. matched (cond b ranked.Exact others)) same) ∙ is in
          let equal : found ≡ 0 = cc in
          inl (equal, same)
      | inr differ ↦
          let rest : matched others ≡ Some found = sym (ap (λ b. matched (cond b ranked.Exact others)) differ) ∙ is in
          elim (cases_Bool (is_number key)) [
            | inl number ↦ let clash : None ≡ Some found = sym (ap (λ b. matched (cond b ranked.Never word)) number) ∙ rest in cc
            | inr none ↦ inr (keyword_is category (encode_utf8_all key) found (sym (ap (λ b. matched (cond b ranked.Never word)) none) ∙ rest))
          ]
    ]

same_keys : (exact : Option (List ℕ)) (key other : List ℕ) → is_key exact key ≡ true → is_key exact other ≡ true → key ≡ other
same_keys None key other one two = cc
same_keys (Some text) key other one two = same_bytes key text one ∙ sym (same_bytes other text two)

same_words : (category : Option Category) (key other : List ℕ) → is_category category (encode_utf8_all key) ≡ true → is_category category (encode_utf8_all other) ≡ true → key ≡ other
same_words None key other one two = cc
same_words (Some category) key other one two =
    encodes_same key other
    ((bytes_decides (encode_utf8_all key) (keyword_text category)).0 one ∙ sym ((bytes_decides (encode_utf8_all other) (keyword_text category)).0 two))

number_tells : (exact : Option (List ℕ)) (category : Option Category) (key other : List ℕ) (found : ℕ) → matched (number_rank exact category key) ≡ Some found →
    matched (number_rank exact category other) ≡ Some found → key ≡ other
number_tells exact category key other found one two = elim (number_is exact category key found one) [
  | inl a ↦ elim (number_is exact category other found two) [
    | inl b ↦ same_keys exact key other a.1 b.1
    | inr b ↦ let clash : 0 ≡ 1 = sym a.0 ∙ b.0 in cc
  ]
  | inr a ↦ elim (number_is exact category other found two) [
    | inl b ↦ let clash : 0 ≡ 1 = sym b.0 ∙ a.0 in cc
    | inr b ↦ same_words category key other a.1 b.1
  ]
]

content_tells : (locale : LocaleRecord) (selects : Selects) (of : Content) (key other : List ℕ) (found : ℕ) → matched (content_rank locale selects of key) ≡ Some found →
    matched (content_rank locale selects of other) ≡ Some found → nfc key ≡ nfc other
content_tells locale selects (content.Text text) key other found one two = text_is text key found one ∙ sym (text_is text other found two)
content_tells locale selects (content.Number amount kept) key other found one two =
    ap nfc (number_tells (exact_key amount kept) (category_of locale selects amount kept) key other found one two)
content_tells locale selects (content.Fallback source) key other found one two = cc

pub rank_tells : (locale : LocaleRecord) → TellsKeys (rank locale)
rank_tells locale value key other found one two = elim (cases_Bool (selects_nothing value.selects)) [
  | inl nothing ↦ let clash : None ≡ Some found = sym (ap (λ b. matched (cond b ranked.Never (content_rank locale value.selects value.content key))) nothing) ∙ one in cc
  | inr selects ↦
      content_tells locale value.selects value.content key other found
      (sym (ap (λ b. matched (cond b ranked.Never (content_rank locale value.selects value.content key))) selects) ∙ one)
      (sym (ap (λ b. matched (cond b ranked.Never (content_rank locale value.selects value.content other))) selects) ∙ two)
]
