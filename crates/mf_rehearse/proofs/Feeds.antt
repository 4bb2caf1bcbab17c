-- No reply line has a line feed.
use Rattle.std.proofs.Common.{◌≡◌, ℕ, suc, ◌+◌, ◌/◌, ◌%◌, ◌==◌, ◌||◌, Bool, true, false, cond, List, [], ◌∷◌, ◌++◌, nat_lt, refl, arith}
use Rattle.std.specs.Prelude.{ℤ, pos, negsuc}
use Rattle.std.proofs.lemmas.Bool.Decides.{nat_tests}
use Rattle.std.specs.Char.{digit_char}
use Rattle.std.specs.Fmt.{decimal, signed_decimal}
use Rattle.std.specs.List.{list_any}
use Rattle.json.specs.Print.{escape, escape_byte, escape_letter, quoted, token_text}
use Rattle.json.specs.Token as token
use Rattle.serde_json.specs.Data.{Data, null, boolean, number, string, array, object, Items, no_items, item, Members, no_members, member, Num, unsigned, negative, float}
use Rattle.serde_json.specs.Written.{comma_if, compact_text, items_text, members_text, number_text}
use Rattle.mf_lines.specs.Cut.{IsOneLine}
use Rattle.mf_transcript.proofs.Decimals.{decimal_digits, AreDigits}
use Rattle.mf_wire.specs.Lines.{line_feed}
use Rattle.mf_wire.specs.Replies.{memory_line, reply_data, reply_line}
use Rattle.mf_wire.specs.declared.reply.Reply.{Reply}

abbrev has_feed : List ℕ → Bool
has_feed bytes = list_any (λ byte. byte == line_feed) bytes

neither : (a b : Bool) → a ≡ false → b ≡ false → (a || b) ≡ false
neither true b one other = cc
neither false b one other = other

-- a byte that isn't one, and then others
pub clean_byte : (byte : ℕ) (bytes : List ℕ) → (byte ≡ 10 → ⊥) → has_feed bytes ≡ false → has_feed (byte ∷ bytes) ≡ false
clean_byte byte bytes other rest =
    let is : (byte == line_feed) ≡ false = grind (arith, nat_tests, other) in
    neither (byte == line_feed) (has_feed bytes) is rest

pub clean_both : (xs ys : List ℕ) → has_feed xs ≡ false → has_feed ys ≡ false → has_feed (xs ++ ys) ≡ false
clean_both [] ys one other = other
clean_both (x ∷ xs) ys one other = by (λ is. clean_both xs ys is other) (x == line_feed) one
  where
    by : (has_feed xs ≡ false → has_feed (xs ++ ys) ≡ false) → (b : Bool) → (b || has_feed xs) ≡ false → (b || has_feed (xs ++ ys)) ≡ false
    by rest true is = cc
    by rest false is = rest is

clean_digits : (ds : List ℕ) → AreDigits ds → has_feed ds ≡ false
clean_digits [] all = refl
clean_digits (d ∷ ds) all = clean_byte d ds (λ is. let h = all.0 in omega (arith, is)) (clean_digits ds all.1)

letter_other : (x : ℕ) → escape_letter x ≡ 10 → ⊥
letter_other x is = by ((x == 34) || (x == 92)) refl (x == 8) (x == 12) (x == 10) (x == 13) (x == 9) is
  where
    by : (quote : Bool) → ((x == 34) || (x == 92)) ≡ quote → (b f n r t : Bool)
        → cond quote x (cond b 98 (cond f 102 (cond n 110 (cond r 114 (cond t 116 0))))) ≡ 10 → ⊥
    by true quote b f n r t is = let other : x ≡ 10 → ⊥ = λ ten. grind (arith, nat_tests, quote, ten) in other is
    by false quote true f n r t is = omega (arith, is)
    by false quote false true n r t is = omega (arith, is)
    by false quote false false true r t is = omega (arith, is)
    by false quote false false false true t is = omega (arith, is)
    by false quote false false false false true is = omega (arith, is)
    by false quote false false false false false is = omega (arith, is)

digit_other : (n : ℕ) → digit_char n ≡ 10 → ⊥
digit_other n is = by (nat_lt n 10) is
  where
    by : (b : Bool) → cond b (48 + n) (87 + n) ≡ 10 → ⊥
    by true is = omega (arith, is)
    by false is = omega (arith, is)

clean_escape_byte : (x : ℕ) → has_feed (escape_byte x) ≡ false
unfolding escape_byte
clean_escape_byte x = by (nat_lt 0 (escape_letter x)) (nat_lt x 32) refl
  where
    by : (short low : Bool) → nat_lt x 32 ≡ low
        → has_feed (cond short (92 ∷ escape_letter x ∷ []) (cond low (92 ∷ 117 ∷ 48 ∷ 48 ∷ digit_char (x / 16) ∷ digit_char (x % 16) ∷ []) (x ∷ []))) ≡ false
    by true low is = clean_byte (escape_letter x) [] (letter_other x) refl
    by false true is =
        clean_byte (digit_char (x / 16)) (digit_char (x % 16) ∷ []) (digit_other (x / 16)) (clean_byte (digit_char (x % 16)) [] (digit_other (x % 16)) refl)
    by false false is = clean_byte x [] (λ ten. grind (arith, nat_tests, is, ten)) refl

clean_escape : (s : List ℕ) → has_feed (escape s) ≡ false
clean_escape [] = refl
clean_escape (x ∷ s) = clean_both (escape_byte x) (escape s) (clean_escape_byte x) (clean_escape s)

clean_quoted : (s : List ℕ) → has_feed (quoted s) ≡ false
clean_quoted s = clean_both (escape s) (34 ∷ []) (clean_escape s) refl

clean_comma : (later : Bool) → has_feed (comma_if later) ≡ false
clean_comma true = refl
clean_comma false = refl

clean_boolean : (b : Bool) → has_feed (token_text (token.boolean b)) ≡ false
clean_boolean true = refl
clean_boolean false = refl

clean_signed : (z : ℤ) → has_feed (signed_decimal z) ≡ false
clean_signed (pos n) = clean_digits (decimal n) (decimal_digits n)
clean_signed (negsuc n) = clean_byte 45 (decimal (suc n)) (λ is. omega (arith, is)) (clean_digits (decimal (suc n)) (decimal_digits (suc n)))

clean_number : (n : Num) → has_feed (number_text n) ≡ false
clean_number (unsigned n) = clean_digits (decimal n) (decimal_digits n)
clean_number (negative z) = clean_signed z
clean_number (float x) = refl

mutual
  clean : (d : Data) → has_feed (compact_text d) ≡ false
  clean null = refl
  clean (boolean b) = clean_boolean b
  clean (number n) = clean_number n
  clean (string s) = clean_quoted s
  clean (array ds) = clean_items false ds
  clean (object ms) = clean_members false ms

  clean_items : (later : Bool) (ds : Items) → has_feed (items_text later ds) ≡ false
  clean_items later no_items = refl
  clean_items later (item d ds) =
      clean_both (comma_if later) (compact_text d ++ items_text true ds) (clean_comma later)
      (clean_both (compact_text d) (items_text true ds) (clean d) (clean_items true ds))

  clean_members : (later : Bool) (ms : Members) → has_feed (members_text later ms) ≡ false
  clean_members later no_members = refl
  clean_members later (member k d ms) =
      clean_both (comma_if later) (quoted k ++ 58 ∷ (compact_text d ++ members_text true ms)) (clean_comma later)
      (clean_both (quoted k) (58 ∷ (compact_text d ++ members_text true ms)) (clean_quoted k)
      (clean_both (compact_text d) (members_text true ms) (clean d) (clean_members true ms)))

-- the line of a reply is one line
pub reply_clean : (reply : Reply) → IsOneLine (reply_line reply)
reply_clean reply = clean (reply_data reply)

pub memory_clean : IsOneLine memory_line
memory_clean = refl
