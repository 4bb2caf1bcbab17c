-- Publications that a reply accepts or refuses.
use Rattle.std.proofs.Common.{◌≡◌, ◌≢◌, ◌∙◌, ◌⊎◌, inl, inr, ℕ, zero, suc, ◌+◌, ◌<◌, ◌≤◌, ◌^◌, Bool, true, false, List, [], ◌∷◌, Option, Some, None, Ok, length, take, nat_le, if◌then◌else◌, refl, ap, sym, subst, arith}
use Rattle.std.proofs.lemmas.Bool.{le-leb, leb-true}
use Rattle.std.proofs.lemmas.List.{length-take-le, take_all}
use Rattle.mf_edition.specs.Sizes.{most_bytes, most_entries, refusal_of, size_of, used_by, IsWithin}
use Rattle.mf_edition.specs.declared.change.Change.{Change}
use Rattle.mf_edition.specs.declared.change.Entry.{Entry}
use Rattle.mf_edition.specs.declared.error.Refusal.{Refusal}
use Rattle.mf_edition.specs.declared.error.Refusal.TheVariants.{EditionsFull, StoreFull}
use Rattle.mf_transcript.specs.Asked.{request_of}
use Rattle.mf_transcript.specs.Lines.{ShowsAtMost}
use Rattle.mf_transcript.specs.Replies.{refusal_reply, shows_counts}
use Rattle.mf_transcript.specs.Steps.{is_accepted, is_refused, next_entry, makes, sees, Standing}
use Rattle.mf_wire.specs.Replies.{memory_line, op_of, reply_line}
use Rattle.mf_wire.specs.declared.reply.Reply.TheVariants as reply
use Rattle.mf_wire.specs.declared.request.Request.TheVariants.{Publish}
use Rattle.mf_history.specs.Places.{Goes, IsAcceptedAt, IsFull, IsRefusedAt, IsStuck, Moves, StandsAs}
use Rattle.mf_history.specs.declared.place.Place.{Place}
use Rattle.mf_history.proofs.Cases.{published}
use Rattle.mf_transcript.proofs.Shown.{others_show}
use Rattle.mf_history.proofs.Standing.{moved, moved_on, stands_at}

same_refusal : (one other : Refusal) (found : Option Refusal) → found ≡ Some one → found ≡ Some other → one ≡ other
same_refusal one other found is is_too = cc

no_refusal : (refusal : Refusal) (found : Option Refusal) → found ≡ None → found ≡ Some refusal → ⊥
no_refusal refusal found is is_too = cc

-- a refusal is of one of two kinds
pub refusal_tells : (log : List Entry) (change : Change) (refusal : Refusal) → refusal_of log change ≡ Some refusal
    → ((most_entries ≤ length log) × (refusal ≡ EditionsFull (length log))) ⊎ (refusal ≡ StoreFull (used_by log) (size_of change))
refusal_tells log change refusal is =
    by (nat_le most_entries (length log)) (nat_le (used_by log + size_of change) most_bytes) refl is
  where
    by : (full fits : Bool) → nat_le most_entries (length log) ≡ full
        → (if full then Some (EditionsFull (length log)) else (if fits then None else Some (StoreFull (used_by log) (size_of change)))) ≡ Some refusal
        → ((most_entries ≤ length log) × (refusal ≡ EditionsFull (length log))) ⊎ (refusal ≡ StoreFull (used_by log) (size_of change))
    by true fits full found = inl (leb-true most_entries (length log) full, same_refusal refusal (EditionsFull (length log)) _ found refl)
    by false true full found = absurd (no_refusal refusal None refl found)
    by false false full found = inr (same_refusal refusal (StoreFull (used_by log) (size_of change)) _ found refl)

used_upto : (log : List Entry) (k : ℕ) → used_by (take k log) ≤ used_by log
used_upto log zero = omega arith
used_upto [] (suc k) = omega arith
used_upto (entry ∷ log) (suc k) = omega (arith, used_upto log k)

plain : (refusal : Refusal) → shows_counts (refusal_reply refusal) ≡ false
plain (EditionsFull entries) = refl
plain (StoreFull used size) = refl

module _ (most : ℕ) (log : List Entry) (caller : ℕ) (line said : List ℕ) (change : Change) (asked : request_of line ≡ Ok (Publish change))
    (old new : Place) (before : Standing) (stands : StandsAs log old before) where
  pub accepted_goes : (k : ℕ) → IsAcceptedAt log caller old change said k → Moves log old new → new.front.edition.number ≡ k
      → Goes most log caller line said before (record { front = new.front; made = new.made + 1; served = new.served })
  accepted_goes k is moves there =
      let above : before.edition < k = omega (arith, is.above, stands_at log old before stands) in record {
        after = makes before k;
        step = is_accepted change k (record { asked = asked; replied = is.replied }) above is.within
            (is.entry ∙ ap (λ n. Some (next_entry caller n change)) stands.made);
        quits = subst (ShowsAtMost most) (sym is.replied) (others_show (reply.Accepted k (op_of change)) refl most);
        stands = moved_on log old before stands new moves k there above;
      }

  pub refused_goes : Moves log old new → IsRefusedAt log change said new.front.edition.number → Goes most log caller line said before new
  refused_goes moves is =
      let k = new.front.edition.number in record {
        after = sees before k;
        step = is_refused k (record { change = change; refusal = is.refusal; asked = asked; due = is.due; replied = is.replied })
            (omega (arith, moves.later.from, stands_at log old before stands)) moves.later.front.within;
        quits = subst (ShowsAtMost most) (sym is.replied) (others_show (refusal_reply is.refusal) (plain is.refusal) most);
        stands = moved log old before stands new moves k refl;
      }

  pub publication_stuck : said ≢ memory_line → ((k : ℕ) → IsAcceptedAt log caller old change said k → ⊥)
      → ((k : ℕ) → old.front.edition.number ≤ k → k ≤ length log → IsRefusedAt log change said k → ⊥) → IsStuck most log caller line said before
  publication_stuck loud accepts refuses after step shows =
      published log caller line said before ⊥ loud change asked
      (λ k replied above within entry. accepts k (record {
        above = omega (arith, above, stands_at log old before stands);
        within = within;
        entry = entry ∙ ap (λ n. Some (next_entry caller n change)) (sym stands.made);
        replied = replied;
      }))
      (λ k is from within. refuses k (omega (arith, from, stands_at log old before stands)) within is)
      after step

module _ (log : List Entry) (within : IsWithin log (used_by log)) (change : Change) (said : List ℕ) where
  -- the end of a full log refuses every change
  pub full_refuses : (k : ℕ) → k ≡ length log → IsFull log said → IsRefusedAt log change said k
  full_refuses k there full =
      let long : length log ≡ most_entries = omega (arith, full.0, within.few) in
      let whole : take k log ≡ log = take_all k log (omega (arith, there)) in
      record {
        refusal = EditionsFull (length log);
        due = ap (λ l. refusal_of l change) whole
            ∙ ap (λ b. if b then Some (EditionsFull (length log)) else (if nat_le (used_by log + size_of change) most_bytes then None else Some (StoreFull (used_by log) (size_of change))))
            (le-leb most_entries (length log) full.0);
        replied = full.1 ∙ ap (λ n. reply_line (reply.EditionsFull n)) (sym long);
      }

  -- a refusal is that of a full log, or that of a full store
  pub refused_how : (k : ℕ) → k ≤ length log → IsRefusedAt log change said k
      → IsFull log said ⊎ (said ≡ reply_line (reply.StoreFull (used_by (take k log)) (size_of change)))
  refused_how k inside is = by (refusal_tells (take k log) change is.refusal is.due)
    where
      by : ((most_entries ≤ length (take k log)) × (is.refusal ≡ EditionsFull (length (take k log)))) ⊎ (is.refusal ≡ StoreFull (used_by (take k log)) (size_of change))
          → IsFull log said ⊎ (said ≡ reply_line (reply.StoreFull (used_by (take k log)) (size_of change)))
      by (inl full) =
          let long : length (take k log) ≡ most_entries = omega (arith, full.0, length-take-le k log inside, inside, within.few) in
          inl (
            omega (arith, full.0, length-take-le k log inside, inside),
            is.replied ∙ ap (λ r. reply_line (refusal_reply r)) full.1 ∙ ap (λ n. reply_line (reply.EditionsFull n)) long,
          )
      by (inr store) = inr (is.replied ∙ ap (λ r. reply_line (refusal_reply r)) store)

  -- a reply that is no such refusal refuses nowhere
  pub refused_nowhere : (from : ℕ) → (IsFull log said → ⊥)
      → ((k : ℕ) → from ≤ k → k ≤ length log → IsRefusedAt log change said k → said ≡ reply_line (reply.StoreFull (used_by (take k log)) (size_of change)) → ⊥)
      → (k : ℕ) → from ≤ k → k ≤ length log → IsRefusedAt log change said k → ⊥
  refused_nowhere from full store k above inside is = by (refused_how k inside is)
    where
      by : IsFull log said ⊎ (said ≡ reply_line (reply.StoreFull (used_by (take k log)) (size_of change))) → ⊥
      by (inl filled) = full filled
      by (inr stored) = store k above inside is stored

  -- the bytes used of an edition are a number of 64 bits
  pub used_low : (k : ℕ) → used_by (take k log) < 2 ^ 64
  used_low k = omega (arith, used_upto log k, within.small)
