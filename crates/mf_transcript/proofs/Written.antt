-- How reply lines differ: by a byte that stands early in them, and by the numbers that they have.
use Rattle.std.proofs.Common.{◌≡◌, ◌∙◌, ℕ, ◌<◌, ◌^◌, List, [], ◌∷◌, ◌++◌, Option, Some, None, drop, slice_get, codes, refl, ap, ap₂, sym, subst, arith}
use Rattle.std.specs.Fmt.{decimal}
use Rattle.std.specs.Char.{digit_value}
use Rattle.std.specs.Str.Parse.{AllDigits}
use Rattle.std.proofs.lemmas.Fmt.{decimal_injective, decimal_is_IsNumeral}
use Rattle.std.proofs.lemmas.List.{append_cancel_left}
use Rattle.json.specs.Print.{escape_byte}
use Rattle.mf_answer.specs.Answers as answers
use Rattle.mf_answer.specs.Answers.{Answer}
use Rattle.mf_wire.specs.Replies.{memory_line, reply_line}
use Rattle.mf_wire.specs.declared.reply.Op.{Op}
use Rattle.mf_wire.specs.declared.reply.Reply.{Reply}
use Rattle.mf_wire.specs.declared.reply.Reply.TheVariants.{Accepted, Formatted, LintValid, LintInvalid, Stat, BadJson, BadRequest, BadLocale, BadHandler, EditionsFull, StoreFull, NoMessage, NotYet, TooLong}
use Rattle.mf_transcript.specs.Laws.{RepliesDiffer}
use Rattle.mf_transcript.specs.Replies.{answer_reply}

pub same_byte : (a b : ℕ) (found : Option ℕ) → found ≡ Some a → found ≡ Some b → a ≡ b
same_byte a b found one other = cc

-- lines with different bytes at a place differ
pub differ_at : (i a b : ℕ) (one other : List ℕ) → slice_get one i ≡ Some a → slice_get other i ≡ Some b → (a ≡ b → ⊥) → one ≡ other → ⊥
differ_at i a b one other first second apart same =
    apart (same_byte a b (slice_get one i) first (ap (λ line. slice_get line i) same ∙ second))

-- the line of a reply that begins with its edition, which a comma follows
pub record Names (k : ℕ) (said : List ℕ) : Type 0 where
  pub rest : List ℕ
  pub early : slice_get said 3 ≡ Some 100
  pub edition : drop 11 said ≡ decimal k ++ 44 ∷ rest

pub accepted_names : (k : ℕ) (op : Op) → Names k (reply_line (Accepted k op))
unfolding escape_byte
accepted_names k op = record { rest = _; early = refl; edition = refl }

pub stat_names : (k starts quits : ℕ) → Names k (reply_line (Stat k starts quits))
unfolding escape_byte
stat_names k starts quits = record { rest = _; early = refl; edition = refl }

pub answer_names : (k : ℕ) (answer : Answer) → Names k (reply_line (answer_reply k answer))
unfolding escape_byte
answer_names k (answers.not_yet since) = record { rest = _; early = refl; edition = refl }
answer_names k answers.no_message = record { rest = _; early = refl; edition = refl }
answer_names k answers.too_long = record { rest = _; early = refl; edition = refl }
answer_names k (answers.formatted tag parts faults) = record { rest = _; early = refl; edition = refl }

-- the line of a store that is full has the size and then the bytes used
pub record Uses (size used : ℕ) (said : List ℕ) : Type 0 where
  pub early : slice_get said 3 ≡ Some 114
  pub late : slice_get said 10 ≡ Some 115
  pub numbers : drop 29 said ≡ decimal size ++ (codes ",\"used\":" ++ (decimal used ++ 125 ∷ []))

pub store_uses : (used size : ℕ) → Uses size used (reply_line (StoreFull used size))
unfolding escape_byte
store_uses used size = record { early = refl; late = refl; numbers = refl }

pub same_head : (a b : ℕ) (others more : List ℕ) → a ∷ others ≡ b ∷ more → a ≡ b
same_head a b others more same = cc

pub same_tail : (a b : ℕ) (others more : List ℕ) → a ∷ others ≡ b ∷ more → others ≡ more
same_tail a b others more same = cc

-- digits before such a byte are the same where the whole is
same_digits : (end : ℕ) (ds es xs ys : List ℕ) → (digit_value end < 10 → ⊥) → AllDigits 10 ds → AllDigits 10 es → ds ++ end ∷ xs ≡ es ++ end ∷ ys → ds ≡ es
same_digits end [] [] xs ys ends one other same = refl
same_digits end [] (e ∷ es) xs ys ends one other same = absurd (ends (subst (λ b. digit_value b < 10) (sym (same_head end e xs (es ++ end ∷ ys) same)) other.0))
same_digits end (d ∷ ds) [] xs ys ends one other same = absurd (ends (subst (λ b. digit_value b < 10) (same_head d end (ds ++ end ∷ xs) ys same) one.0))
same_digits end (d ∷ ds) (e ∷ es) xs ys ends one other same =
    ap₂ (λ b bs. b ∷ bs) (same_head d e (ds ++ end ∷ xs) (es ++ end ∷ ys) same)
    (same_digits end ds es xs ys ends one.1 other.1 (same_tail d e (ds ++ end ∷ xs) (es ++ end ∷ ys) same))

same_number : (end j k : ℕ) (xs ys : List ℕ) → (digit_value end < 10 → ⊥) → j < 2 ^ 64 → k < 2 ^ 64 → decimal j ++ end ∷ xs ≡ decimal k ++ end ∷ ys → j ≡ k
same_number end j k xs ys ends low less same =
    decimal_injective j k low less
    (same_digits end (decimal j) (decimal k) xs ys ends (decimal_is_IsNumeral j low).0.1 (decimal_is_IsNumeral k less).0.1 same)

-- one line names one edition
pub names_once : (j k : ℕ) (said : List ℕ) → j < 2 ^ 64 → k < 2 ^ 64 → Names j said → Names k said → j ≡ k
names_once j k said low less one other = same_number 44 j k one.rest other.rest (λ digit. omega (arith, digit)) low less (sym one.edition ∙ other.edition)

-- one line has one number of bytes used, for one size
pub uses_once : (size i j : ℕ) (said : List ℕ) → i < 2 ^ 64 → j < 2 ^ 64 → Uses size i said → Uses size j said → i ≡ j
uses_once size i j said low less one other =
    same_number 125 i j [] [] (λ digit. omega (arith, digit)) low less
    (append_cancel_left (codes ",\"used\":") _ _ (append_cancel_left (decimal size) _ _ (sym one.numbers ∙ other.numbers)))

-- the line of a log that has all its entries
pub entries_early : (entries : ℕ) → slice_get (reply_line (EditionsFull entries)) 3 ≡ Some 110
unfolding escape_byte
entries_early entries = refl

-- each of the others has a byte that the memory line has not
other_early : (reply : Reply) (a : ℕ) → slice_get (reply_line reply) 3 ≡ Some a → (a ≡ 114 → ⊥) → reply_line reply ≡ memory_line → ⊥
other_early reply a byte apart same = differ_at 3 a 114 (reply_line reply) memory_line byte refl apart same

other_lint : (reply : Reply) → slice_get (reply_line reply) 7 ≡ Some 115 → reply_line reply ≡ memory_line → ⊥
other_lint reply byte same = differ_at 7 115 34 (reply_line reply) memory_line byte refl (λ e. omega (arith, e)) same

other_late : (reply : Reply) (a : ℕ) → slice_get (reply_line reply) 10 ≡ Some a → (a ≡ 111 → ⊥) → reply_line reply ≡ memory_line → ⊥
other_late reply a byte apart same = differ_at 10 a 111 (reply_line reply) memory_line byte refl apart same

pub replies_differ : RepliesDiffer
unfolding escape_byte
replies_differ (Accepted k op) same = other_early (Accepted k op) 100 refl (λ e. omega (arith, e)) same
replies_differ (Formatted k tag parts faults) same = other_early (Formatted k tag parts faults) 100 refl (λ e. omega (arith, e)) same
replies_differ (LintValid source) same = other_lint (LintValid source) refl same
replies_differ (LintInvalid faults) same = other_lint (LintInvalid faults) refl same
replies_differ (Stat k starts quits) same = other_early (Stat k starts quits) 100 refl (λ e. omega (arith, e)) same
replies_differ BadJson same = other_late BadJson 98 refl (λ e. omega (arith, e)) same
replies_differ (BadRequest field) same = other_late (BadRequest field) 98 refl (λ e. omega (arith, e)) same
replies_differ (BadLocale field None) same = other_late (BadLocale field None) 98 refl (λ e. omega (arith, e)) same
replies_differ (BadLocale field (Some rule)) same = other_late (BadLocale field (Some rule)) 98 refl (λ e. omega (arith, e)) same
replies_differ (BadHandler reason) same = other_late (BadHandler reason) 98 refl (λ e. omega (arith, e)) same
replies_differ (EditionsFull entries) same = other_early (EditionsFull entries) 110 refl (λ e. omega (arith, e)) same
replies_differ (StoreFull used size) same = other_late (StoreFull used size) 115 refl (λ e. omega (arith, e)) same
replies_differ (NoMessage k) same = other_early (NoMessage k) 100 refl (λ e. omega (arith, e)) same
replies_differ (NotYet k since) same = other_early (NotYet k since) 100 refl (λ e. omega (arith, e)) same
replies_differ (TooLong k) same = other_early (TooLong k) 100 refl (λ e. omega (arith, e)) same
