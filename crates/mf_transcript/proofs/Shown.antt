-- Which replies show quits, and how many.
use Rattle.std.proofs.Common.{◌≡◌, ◌∙◌, ℕ, ◌<◌, ◌≤◌, ◌^◌, false, List, ◌∷◌, ◌++◌, [], Some, None, slice_get, codes, refl, ap, sym, arith}
use Rattle.std.specs.Fmt.{decimal}
use Rattle.std.proofs.lemmas.List.{append_cancel_left}
use Rattle.json.specs.Print.{escape_byte}
use Rattle.mf_wire.specs.Replies.{memory_line, reply_line}
use Rattle.mf_wire.specs.declared.reply.Op.TheVariants.{Publish, Locale, Handler}
use Rattle.mf_wire.specs.declared.reply.Reply.{Reply}
use Rattle.mf_wire.specs.declared.reply.Reply.TheVariants.{Accepted, Formatted, LintValid, LintInvalid, Stat, BadJson, BadRequest, BadLocale, BadHandler, EditionsFull, StoreFull, NoMessage, NotYet, TooLong}
use Rattle.mf_transcript.specs.Lines.{ShowsAtMost}
use Rattle.mf_transcript.specs.Replies.{shows_counts}
use Rattle.mf_transcript.proofs.Decimals.{decimal_digits, decimal_once, same_parts}
use Rattle.mf_transcript.proofs.Written.{same_byte}

-- behind the comma that follows the edition
abbrev pub stat_rest : ℕ → ℕ → List ℕ
stat_rest starts quits = codes "\"ok\":\"stat\",\"quits\":" ++ (decimal quits ++ 44 ∷ (codes "\"starts\":" ++ (decimal starts ++ 125 ∷ [])))

pub stat_line : (k starts quits : ℕ) → reply_line (Stat k starts quits) ≡ codes "{\"edition\":" ++ (decimal k ++ 44 ∷ stat_rest starts quits)
unfolding escape_byte
stat_line k starts quits = refl

-- a line with another early byte has no counts
apart_early : (said : List ℕ) (a : ℕ) → slice_get said 3 ≡ Some a → (a ≡ 100 → ⊥) → (most : ℕ) → ShowsAtMost most said
apart_early said a byte apart most k starts quits is =
    absurd (apart (same_byte a 100 (slice_get said 3) byte (ap (λ l. slice_get l 3) (is ∙ stat_line k starts quits))))

-- what follows the edition
stat_follows : (j k starts quits : ℕ) (rest : List ℕ) → codes "{\"edition\":" ++ (decimal j ++ 44 ∷ rest) ≡ reply_line (Stat k starts quits)
    → rest ≡ stat_rest starts quits
stat_follows j k starts quits rest is =
    (same_parts (decimal j) (decimal k) rest (stat_rest starts quits) (decimal_digits j) (decimal_digits k)
    (append_cancel_left (codes "{\"edition\":") (decimal j ++ 44 ∷ rest) (decimal k ++ 44 ∷ stat_rest starts quits) (is ∙ stat_line k starts quits))).1

-- a line with another byte behind the edition has no counts
apart_late : (j i a b : ℕ) (rest : List ℕ) → slice_get rest i ≡ Some a → ((starts quits : ℕ) → slice_get (stat_rest starts quits) i ≡ Some b) → (a ≡ b → ⊥)
    → (most : ℕ) → ShowsAtMost most (codes "{\"edition\":" ++ (decimal j ++ 44 ∷ rest))
apart_late j i a b rest byte other apart most k starts quits is =
    absurd (apart (same_byte a b (slice_get rest i) byte (ap (λ l. slice_get l i) (stat_follows j k starts quits rest is) ∙ other starts quits)))

-- a reply that has no counts shows no quits
pub others_show : (reply : Reply) → shows_counts reply ≡ false → (most : ℕ) → ShowsAtMost most (reply_line reply)
unfolding escape_byte
others_show (Accepted k Publish) none = apart_late k 6 112 115 _ refl (λ starts quits. refl) (λ e. omega (arith, e))
others_show (Accepted k Locale) none = apart_late k 6 108 115 _ refl (λ starts quits. refl) (λ e. omega (arith, e))
others_show (Accepted k Handler) none = apart_late k 6 104 115 _ refl (λ starts quits. refl) (λ e. omega (arith, e))
others_show (Formatted k tag parts faults) none = apart_late k 1 101 111 _ refl (λ starts quits. refl) (λ e. omega (arith, e))
others_show (LintValid source) none = apart_early (reply_line (LintValid source)) 114 refl (λ e. omega (arith, e))
others_show (LintInvalid faults) none = apart_early (reply_line (LintInvalid faults)) 114 refl (λ e. omega (arith, e))
others_show (Stat k starts quits) none = absurd (grind (arith, none))
others_show BadJson none = apart_early (reply_line BadJson) 114 refl (λ e. omega (arith, e))
others_show (BadRequest field) none = apart_early (reply_line (BadRequest field)) 114 refl (λ e. omega (arith, e))
others_show (BadLocale field None) none = apart_early (reply_line (BadLocale field None)) 114 refl (λ e. omega (arith, e))
others_show (BadLocale field (Some rule)) none = apart_early (reply_line (BadLocale field (Some rule))) 114 refl (λ e. omega (arith, e))
others_show (BadHandler reason) none = apart_early (reply_line (BadHandler reason)) 114 refl (λ e. omega (arith, e))
others_show (EditionsFull entries) none = apart_early (reply_line (EditionsFull entries)) 110 refl (λ e. omega (arith, e))
others_show (StoreFull used size) none = apart_early (reply_line (StoreFull used size)) 114 refl (λ e. omega (arith, e))
others_show (NoMessage k) none = apart_late k 1 101 111 _ refl (λ starts quits. refl) (λ e. omega (arith, e))
others_show (NotYet k since) none = apart_late k 1 101 111 _ refl (λ starts quits. refl) (λ e. omega (arith, e))
others_show (TooLong k) none = apart_late k 1 101 111 _ refl (λ starts quits. refl) (λ e. omega (arith, e))

pub memory_shows : (most : ℕ) → ShowsAtMost most memory_line
unfolding escape_byte
memory_shows most = apart_early memory_line 114 refl (λ e. omega (arith, e)) most

-- the reply with the counts shows its own quits
pub stat_shows : (k starts quits most : ℕ) → quits < 2 ^ 64 → quits ≤ most → ShowsAtMost most (reply_line (Stat k starts quits))
stat_shows k starts quits most small few j others more is =
    let rest = stat_follows k j others more (stat_rest starts quits) (sym (stat_line k starts quits) ∙ is) in
    let after = append_cancel_left (codes "\"ok\":\"stat\",\"quits\":") _ _ rest in
    let same = decimal_once quits more small (same_parts (decimal quits) (decimal more) _ _ (decimal_digits quits) (decimal_digits more) after).0 in
    omega (arith, same, few)
