-- Where a line and its reply take a caller.
use Rattle.std.proofs.Common.{◌≡◌, ◌∙◌, ◌⊎◌, inl, inr, ℕ, zero, suc, ◌+◌, ◌<◌, ◌≤◌, ◌^◌, Bool, true, false, List, [], ◌∷◌, length, take, Option, Some, None, Result, Ok, Err, nat_le, slice_get, if◌then◌else◌, refl, ap, sym, subst, arith}
use Rattle.std.proofs.lemmas.Bool.{cases_lt, leb-true}
use Rattle.std.proofs.lemmas.List.{length-take-le}
use Rattle.mf_edition.proofs.Sized.{longer}
use Rattle.mf_edition.specs.Sizes.{most_bytes, most_entries, refusal_of, size_of, used_by, IsWithin}
use Rattle.mf_edition.specs.declared.change.Change.{Change}
use Rattle.mf_edition.specs.declared.change.Entry.{Entry}
use Rattle.mf_edition.specs.declared.error.Refusal.{Refusal}
use Rattle.mf_edition.specs.declared.error.Refusal.TheVariants.{EditionsFull, StoreFull}
use Rattle.mf_wire.specs.Replies.{memory_line, op_of, reply_line}
use Rattle.mf_wire.specs.declared.reply.Reply.{Reply}
use Rattle.mf_wire.specs.declared.reply.Reply.TheVariants as reply
use Rattle.mf_wire.specs.declared.request.Request.{Request}
use Rattle.mf_wire.specs.declared.request.Request.TheVariants.{Format, Lint, Publish, Stat}
use Rattle.mf_transcript.specs.Asked.{request_of}
use Rattle.mf_transcript.specs.Laws.{EditionsNeverFall, RepliesFixTheirEditions}
use Rattle.mf_transcript.specs.Replies.{refusal_reply}
use Rattle.mf_transcript.specs.Served.{served_by}
use Rattle.mf_transcript.specs.Steps.{no_memory, stands_apart, is_accepted, is_refused, is_answered, is_counted, gets, makes, sees, Accepts, Answers, ApartFor, Counts, Refuses, Standing, Step}
use Rattle.mf_transcript.proofs.Written.{accepted_names, answer_names, differ_at, entries_early, names_once, replies_differ, stat_names, store_uses, uses_once, Names, Uses}

pub step_rises : (log : List Entry) (caller : ℕ) (line said : List ℕ) (before after : Standing)
    → Step log caller line said before after → before.edition ≤ after.edition
step_rises log caller line said before after (no_memory is) = omega arith
step_rises log caller line said before after (stands_apart is) = omega arith
step_rises log caller line said before after (is_accepted change k is above within entry) = omega (arith, above)
step_rises log caller line said before after (is_refused k is from within) = from
step_rises log caller line said before after (is_answered k is from within) = from
step_rises log caller line said before after (is_counted k is from within) = from

pub never_fall : EditionsNeverFall
never_fall log caller [] [] before after steps = omega (arith, ap (λ (s : Standing). s.edition) steps)
never_fall log caller [] (reply ∷ replies) before after steps = absurd steps
never_fall log caller (line ∷ lines) [] before after steps = absurd steps
never_fall log caller (line ∷ lines) (reply ∷ replies) before after steps =
    let one = step_rises log caller line reply before steps.0 steps.1 in
    let more = never_fall log caller lines replies steps.0 after steps.2 in
    omega arith

-- what is asked for, as a number: a publication, a sentence, the counts, or what is apart from the log
abbrev pub kind : Result Request Reply → ℕ
kind (Ok (Publish change)) = 0
kind (Ok (Format tag id arguments since)) = 1
kind (Ok Stat) = 2
kind (Ok (Lint source)) = 3
kind (Err refusal) = 3

pub apart_kind : (asked : Result Request Reply) (said : List ℕ) → ApartFor asked said → kind asked ≡ 3
apart_kind (Ok (Publish change)) said is = absurd is
apart_kind (Ok (Format tag id arguments since)) said is = absurd is
apart_kind (Ok Stat) said is = absurd is
apart_kind (Ok (Lint source)) said is = refl
apart_kind (Err refusal) said is = refl

pub accepted_kind : (line : List ℕ) (change : Change) (k : ℕ) (said : List ℕ) → Accepts line change k said → kind (request_of line) ≡ 0
accepted_kind line change k said is = ap kind is.asked

pub refused_kind : (log : List Entry) (k : ℕ) (line said : List ℕ) → Refuses log k line said → kind (request_of line) ≡ 0
refused_kind log k line said is = ap kind is.asked

pub answered_kind : (log : List Entry) (k : ℕ) (line said : List ℕ) → Answers log k line said → kind (request_of line) ≡ 1
answered_kind log k line said is = ap kind is.asked

pub counted_kind : (log : List Entry) (k : ℕ) (served : List ℕ) (line said : List ℕ) → Counts log k served line said → kind (request_of line) ≡ 2
counted_kind log k served line said is = ap kind is.asked

-- a publication is of one change
pub same_change : (asked : Result Request Reply) (one other : Change) → asked ≡ Ok (Publish one) → asked ≡ Ok (Publish other) → one ≡ other
same_change asked one other is is_too = cc

pub same_refusal : (one other : Refusal) (found : Option Refusal) → found ≡ Some one → found ≡ Some other → one ≡ other
same_refusal one other found is is_too = cc

no_refusal : (refusal : Refusal) → None ≡ Some refusal → ⊥
no_refusal refusal is = cc

-- a refusal is of one of two kinds, and tells the log by its numbers
refusal_tells : (log : List Entry) (change : Change) (refusal : Refusal) → refusal_of log change ≡ Some refusal
    → ((most_entries ≤ length log) × (refusal ≡ EditionsFull (length log))) ⊎ (refusal ≡ StoreFull (used_by log) (size_of change))
refusal_tells log change refusal is =
    by (nat_le most_entries (length log)) (nat_le (used_by log + size_of change) most_bytes) refl is
  where
    by : (full fits : Bool) → nat_le most_entries (length log) ≡ full
        → (if full then Some (EditionsFull (length log)) else (if fits then None else Some (StoreFull (used_by log) (size_of change)))) ≡ Some refusal
        → ((most_entries ≤ length log) × (refusal ≡ EditionsFull (length log))) ⊎ (refusal ≡ StoreFull (used_by log) (size_of change))
    by true fits full found = inl (leb-true most_entries (length log) full, same_refusal refusal (EditionsFull (length log)) _ found refl)
    by false true full found = absurd (no_refusal refusal found)
    by false false full found = inr (same_refusal refusal (StoreFull (used_by log) (size_of change)) _ found refl)

-- a front of a log uses no more
used_front : (log : List Entry) (k : ℕ) → used_by (take k log) ≤ used_by log
used_front log zero = omega arith
used_front [] (suc k) = omega arith
used_front (entry ∷ log) (suc k) = omega (arith, used_front log k)

-- the line of an accepted publication isn't that of a refused one
pub accepted_or_refused : (log : List Entry) (change : Change) (j k : ℕ) (line said : List ℕ) → Accepts line change j said → Refuses log k line said → ⊥
accepted_or_refused log change j k line said is refused =
    by (refusal_tells (take k log) refused.change refused.refusal refused.due)
  where
    accepted : slice_get said 3 ≡ Some 100
    accepted = ap (λ l. slice_get l 3) is.replied ∙ (accepted_names j (op_of change)).early

    by : ((most_entries ≤ length (take k log)) × (refused.refusal ≡ EditionsFull (length (take k log)))) ⊎ (refused.refusal ≡ StoreFull (used_by (take k log)) (size_of refused.change)) → ⊥
    by (inl full) = differ_at 3 100 110 said said accepted
        (ap (λ l. slice_get l 3) (refused.replied ∙ ap (λ r. reply_line (refusal_reply r)) full.1) ∙ entries_early (length (take k log)))
        (λ e. omega (arith, e)) refl
    by (inr store) = differ_at 3 100 114 said said accepted
        (ap (λ l. slice_get l 3) (refused.replied ∙ ap (λ r. reply_line (refusal_reply r)) store) ∙ (store_uses (used_by (take k log)) (size_of refused.change)).early)
        (λ e. omega (arith, e)) refl

-- Over a log within its limits.
module _ (log : List Entry) (within : IsWithin log (used_by log)) where
  low : (k : ℕ) → k ≤ length log → k < 2 ^ 64
  low k inside = omega (arith, inside, within.few)

  used_low : (k : ℕ) → used_by (take k log) < 2 ^ 64
  used_low k = omega (arith, used_front log k, within.small)

  -- fronts that use as many bytes have as many entries
  same_used : (j k : ℕ) → j ≤ length log → k ≤ length log → used_by (take j log) ≡ used_by (take k log) → j ≡ k
  same_used j k inside near same = by (cases_lt j k) (cases_lt k j)
    where
      by : (j < k) ⊎ (k ≤ j) → (k < j) ⊎ (j ≤ k) → j ≡ k
      by (inl less) other = absurd (omega (arith, longer log j k less near, same))
      by (inr most) (inl less) = absurd (omega (arith, longer log k j less inside, same))
      by (inr most) (inr least) = omega (arith, most, least)

  refused_once : (j k : ℕ) (line said : List ℕ) → j ≤ length log → k ≤ length log → Refuses log j line said → Refuses log k line said → j ≡ k
  refused_once j k line said inside near one other =
      by (refusal_tells (take j log) one.change one.refusal one.due)
      (refusal_tells (take k log) one.change other.refusal
      (subst (λ change. refusal_of (take k log) change ≡ Some other.refusal) (same_change (request_of line) other.change one.change other.asked one.asked) other.due))
    where
      by : ((most_entries ≤ length (take j log)) × (one.refusal ≡ EditionsFull (length (take j log)))) ⊎ (one.refusal ≡ StoreFull (used_by (take j log)) (size_of one.change))
          → ((most_entries ≤ length (take k log)) × (other.refusal ≡ EditionsFull (length (take k log)))) ⊎ (other.refusal ≡ StoreFull (used_by (take k log)) (size_of one.change))
          → j ≡ k
      by (inl full) (inl filled) = omega (arith, full.0, filled.0, length-take-le j log, length-take-le k log, inside, near, within.few)
      by (inl full) (inr store) = absurd (differ_at 3 110 114 said said
          (ap (λ l. slice_get l 3) (one.replied ∙ ap (λ r. reply_line (refusal_reply r)) full.1) ∙ entries_early (length (take j log)))
          (ap (λ l. slice_get l 3) (other.replied ∙ ap (λ r. reply_line (refusal_reply r)) store) ∙ (store_uses (used_by (take k log)) (size_of one.change)).early)
          (λ e. omega (arith, e)) refl)
      by (inr store) (inl full) = absurd (differ_at 3 114 110 said said
          (ap (λ l. slice_get l 3) (one.replied ∙ ap (λ r. reply_line (refusal_reply r)) store) ∙ (store_uses (used_by (take j log)) (size_of one.change)).early)
          (ap (λ l. slice_get l 3) (other.replied ∙ ap (λ r. reply_line (refusal_reply r)) full.1) ∙ entries_early (length (take k log)))
          (λ e. omega (arith, e)) refl)
      by (inr store) (inr stored) = same_used j k inside near (uses_once (size_of one.change) (used_by (take j log)) (used_by (take k log)) said (used_low j) (used_low k)
          (subst (λ l. Uses (size_of one.change) (used_by (take j log)) l) (sym (one.replied ∙ ap (λ r. reply_line (refusal_reply r)) store)) (store_uses (used_by (take j log)) (size_of one.change)))
          (subst (λ l. Uses (size_of one.change) (used_by (take k log)) l) (sym (other.replied ∙ ap (λ r. reply_line (refusal_reply r)) stored)) (store_uses (used_by (take k log)) (size_of one.change))))

  -- an edition that the reply names is the one that it names
  named_once : (j k : ℕ) (said one other : List ℕ) → j ≤ length log → k ≤ length log → said ≡ one → said ≡ other → Names j one → Names k other → j ≡ k
  named_once j k said one other inside near is is_too names names_too =
      names_once j k said (low j inside) (low k near) (subst (λ l. Names j l) (sym is) names) (subst (λ l. Names k l) (sym is_too) names_too)

  accepted_once : (change another : Change) (j k : ℕ) (line said : List ℕ) → j ≤ length log → k ≤ length log
      → Accepts line change j said → Accepts line another k said → j ≡ k
  accepted_once change another j k line said inside near one other =
      named_once j k said _ _ inside near one.replied other.replied (accepted_names j (op_of change)) (accepted_names k (op_of another))

  counted_once : (j k : ℕ) (served others line said : List ℕ) → j ≤ length log → k ≤ length log
      → Counts log j served line said → Counts log k others line said → j ≡ k
  counted_once j k served others line said inside near one other =
      named_once j k said _ _ inside near one.replied other.replied (stat_names j one.starts one.quits) (stat_names k other.starts other.quits)

  answered_names : (k : ℕ) (line said : List ℕ) (is : Answers log k line said) → Names k said
  answered_names k line said is =
      let due = is.replied.due in
      subst (λ l. Names k l) (sym (is.replied.written ∙ ap reply_line due.is)) (answer_names k due.answer)

  answered_once : (j k : ℕ) (line said : List ℕ) → j ≤ length log → k ≤ length log → Answers log j line said → Answers log k line said → j ≡ k
  answered_once j k line said inside near one other =
      names_once j k said (low j inside) (low k near) (answered_names j line said one) (answered_names k line said other)

module _ (log : List Entry) (caller : ℕ) (line said : List ℕ) (before : Standing) where
  -- where there was no memory the caller stays
  pub stays : (after : Standing) → said ≡ memory_line → Step log caller line said before after → before ≡ after
  stays after memory (no_memory is) = refl
  stays after memory (stands_apart is) = refl
  stays after memory (is_accepted change k is above inside entry) = absurd (replies_differ (reply.Accepted k (op_of change)) (sym is.replied ∙ memory))
  stays after memory (is_refused k is from inside) = absurd (replies_differ (refusal_reply is.refusal) (sym is.replied ∙ memory))
  stays after memory (is_answered k is from inside) = absurd (replies_differ is.replied.reply (sym is.replied.written ∙ memory))
  stays after memory (is_counted k is from inside) = absurd (replies_differ (reply.Stat k is.starts is.quits) (sym is.replied ∙ memory))

  -- and where what is asked for is apart from the log
  stays_apart : (after : Standing) → kind (request_of line) ≡ 3 → Step log caller line said before after → before ≡ after
  stays_apart after apart (no_memory is) = refl
  stays_apart after apart (stands_apart is) = refl
  stays_apart after apart (is_accepted change k is above inside entry) = absurd (omega (arith, apart, accepted_kind line change k said is))
  stays_apart after apart (is_refused k is from inside) = absurd (omega (arith, apart, refused_kind log k line said is))
  stays_apart after apart (is_answered k is from inside) = absurd (omega (arith, apart, answered_kind log k line said is))
  stays_apart after apart (is_counted k is from inside) = absurd (omega (arith, apart, counted_kind log k _ line said is))

  fixed : IsWithin log (used_by log) → (one other : Standing) → Step log caller line said before one → Step log caller line said before other → one ≡ other
  fixed within one other (no_memory is) step = stays other is step
  fixed within one other (stands_apart is) step = stays_apart other (apart_kind (request_of line) said is) step
  fixed within one other step (no_memory is) = sym (stays one is step)
  fixed within one other step (stands_apart is) = sym (stays_apart one (apart_kind (request_of line) said is) step)
  fixed within one other (is_accepted change j is above inside entry) (is_accepted another k is_too more near next) =
      ap (makes before) (accepted_once log within change another j k line said inside near is is_too)
  fixed within one other (is_accepted change j is above inside entry) (is_refused k is_too from near) = absurd (accepted_or_refused log change j k line said is is_too)
  fixed within one other (is_accepted change j is above inside entry) (is_answered k is_too from near) =
      absurd (omega (arith, accepted_kind line change j said is, answered_kind log k line said is_too))
  fixed within one other (is_accepted change j is above inside entry) (is_counted k is_too from near) =
      absurd (omega (arith, accepted_kind line change j said is, counted_kind log k _ line said is_too))
  fixed within one other (is_refused j is least inside) (is_accepted change k is_too above near entry) = absurd (accepted_or_refused log change k j line said is_too is)
  fixed within one other (is_refused j is least inside) (is_refused k is_too from near) =
      ap (sees before) (refused_once log within j k line said inside near is is_too)
  fixed within one other (is_refused j is least inside) (is_answered k is_too from near) =
      absurd (omega (arith, refused_kind log j line said is, answered_kind log k line said is_too))
  fixed within one other (is_refused j is least inside) (is_counted k is_too from near) =
      absurd (omega (arith, refused_kind log j line said is, counted_kind log k _ line said is_too))
  fixed within one other (is_answered j is least inside) (is_accepted change k is_too above near entry) =
      absurd (omega (arith, answered_kind log j line said is, accepted_kind line change k said is_too))
  fixed within one other (is_answered j is least inside) (is_refused k is_too from near) =
      absurd (omega (arith, answered_kind log j line said is, refused_kind log k line said is_too))
  fixed within one other (is_answered j is least inside) (is_answered k is_too from near) =
      ap (λ n. gets before n (served_by log n line)) (answered_once log within j k line said inside near is is_too)
  fixed within one other (is_answered j is least inside) (is_counted k is_too from near) =
      absurd (omega (arith, answered_kind log j line said is, counted_kind log k _ line said is_too))
  fixed within one other (is_counted j is least inside) (is_accepted change k is_too above near entry) =
      absurd (omega (arith, counted_kind log j _ line said is, accepted_kind line change k said is_too))
  fixed within one other (is_counted j is least inside) (is_refused k is_too from near) =
      absurd (omega (arith, counted_kind log j _ line said is, refused_kind log k line said is_too))
  fixed within one other (is_counted j is least inside) (is_answered k is_too from near) =
      absurd (omega (arith, counted_kind log j _ line said is, answered_kind log k line said is_too))
  fixed within one other (is_counted j is least inside) (is_counted k is_too from near) =
      ap (sees before) (counted_once log within j k _ _ line said inside near is is_too)

pub replies_fix : RepliesFixTheirEditions
replies_fix log caller line said before one other within step another = fixed log caller line said before within one other step another
