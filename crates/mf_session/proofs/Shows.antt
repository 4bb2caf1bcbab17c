-- The reply to a request for a sentence, of an edition that was pinned for it.
use Rattle.std.proofs.Common.{◌≡◌, ◌∙◌, ℕ, ◌<◌, ◌≤◌, Bool, true, false, List, [], ◌∷◌, length, Contains, Option, Some, None, refl, ap, sym, subst, arith, if◌then◌else◌}
use Rattle.std.proofs.lemmas.Bool.Decides.{nat_tests}
use Rattle.std.specs.List.{AllByRecursion}
use Rattle.std.specs.Prelude.{nat_lt}
use Rattle.mf_text.specs.declared.arguments.Argued.{Argued}
use Rattle.mf_locale.specs.Chain.{chain_of}
use Rattle.mf_answer.specs.Answers.{IsAnswerIn}
use Rattle.mf_edition.proofs.EditionLaws.{newest, newest_number}
use Rattle.mf_edition.specs.Edition.{edition_of, found_along, newest_edition, EditionsStay, EditionState}
use Rattle.mf_edition.specs.declared.change.Entry.{Entry}
use Rattle.mf_edition.specs.declared.item.Found.{Found}
use Rattle.mf_hub.proofs.Growing.{grows_itself, grows_through, keeps_through}
use Rattle.mf_hub.proofs.Seats.{edition_stays, grown, longer}
use Rattle.mf_hub.specs.Desks.{IsPlanAt}
use Rattle.mf_hub.specs.Passes.{Gets, Grows, HasMessage, Keeps, Known}
use Rattle.mf_plan.specs.declared.plan.Plan.{Plan}
use Rattle.mf_transcript.specs.Replies.{IsFormatReply}
use Rattle.mf_transcript.specs.Served.{index_of, served_to, with_edition}
use Rattle.mf_wire.specs.declared.reply.Reply.{Reply}
use Rattle.mf_session.specs.Sharing.{IsPinned, Misses, Shows, ShowsAt, ShowsFound}
use Rattle.mf_session.proofs.Answering.{found_reply}

same_some : (a b : ℕ) (found : Option ℕ) → found ≡ Some a → found ≡ Some b → a ≡ b
same_some a b found one other = cc

pub all_kept : {X : Type 0} (P Q : X → Type 0) (xs : List X) → ((x : X) → P x → Q x) → AllByRecursion P xs → AllByRecursion Q xs
all_kept P Q [] keeps all = tt
all_kept P Q (x ∷ xs) keeps all = (keeps x all.0, all_kept P Q xs keeps all.1)

-- the newest edition of what was seen, which is pinned
pub pinned_newest : (edition : EditionState) (p : Known) → edition ≡ newest_edition p.log → p.pin ≡ Some (length p.log) → IsPinned edition p
pinned_newest edition p is pin =
    let number : edition.number ≡ length p.log = ap (λ (e : EditionState). e.number) is ∙ newest_number p.log in
    record {
      pin = pin ∙ ap Some (sym number);
      within = omega arith;
      is = is ∙ sym (newest p.log) ∙ ap (edition_of p.log) (sym number);
    }

-- a message of it
pub pinned_message : (edition : EditionState) (p : Known) (index : ℕ) → IsPinned edition p → index < length edition.items → HasMessage index p
pinned_message edition p index is inside = record {
  pinned_at = edition.number;
  pinned = is.pin;
  inside = (let same = ap (λ (e : EditionState). length e.items) is.is in omega arith);
}

-- and its plan
pub pinned_plan : EditionsStay → (edition : EditionState) (index : ℕ) (plan : Plan) (p q : Known) → IsPinned edition p → Grows p q → Gets index plan p q
    → IsPlanAt edition index plan
pinned_plan stay edition index plan p q is grows gets =
    let at : gets.pinned_at ≡ edition.number = same_some gets.pinned_at edition.number p.pin gets.pinned is.pin in
    subst (λ (e : EditionState). IsPlanAt e index plan)
    (ap (edition_of q.log) at ∙ edition_stays stay p.log q.log edition.number (grown p q grows) is.within ∙ sym is.is) gets.plan_is

pub pinned_served : (edition : EditionState) (index : ℕ) (plan : Plan) (p q : Known) → IsPinned edition p → Gets index plan p q
    → Contains q.served (edition.number, index)
pinned_served edition index plan p q is gets =
    subst (λ (n : ℕ). Contains q.served (n, index)) (same_some gets.pinned_at edition.number p.pin gets.pinned is.pin) gets.served

-- nothing was done for it
pub misses_none : (many : ℕ) (p : Known) → Misses many p p
misses_none many p = record {
  grows = grows_itself p;
  gives = record { ended = refl; least = omega arith; most = omega arith };
}

module _ (tag id : List ℕ) (arguments : List (List ℕ × Argued)) (since : ℕ) (reply : Reply) where
  early_at : (log : List Entry) (k : ℕ) → k < since → served_to log k tag id since ≡ []
  early_at log k early =
      let is : nat_lt k since ≡ true = grind (arith, nat_tests, early) in
      ap (λ (b : Bool). if b then [] else index_of (found_along (edition_of log k).items id (chain_of tag))) is

  late_at : (log : List Entry) (k : ℕ) (found : Option Found) → since ≤ k → found_along (edition_of log k).items id (chain_of tag) ≡ found
      → served_to log k tag id since ≡ index_of found
  late_at log k found late is =
      let not_early : nat_lt k since ≡ false = grind (arith, nat_tests, late) in
      ap (λ (b : Bool). if b then [] else index_of (found_along (edition_of log k).items id (chain_of tag))) not_early ∙ ap index_of is

  module _ (edition : EditionState) (p : Known) (is : IsPinned edition p) where
    items_are : (found : Option Found) → found_along edition.items id (chain_of tag) ≡ found
        → found_along (edition_of p.log edition.number).items id (chain_of tag) ≡ found
    items_are found there = ap (λ (e : EditionState). found_along e.items id (chain_of tag)) (sym is.is) ∙ there

    shows_none : (indexes : List ℕ) → served_to p.log edition.number tag id since ≡ indexes → indexes ≡ []
        → IsFormatReply (IsAnswerIn edition.number edition tag id arguments since) edition.number reply → ShowsAt edition tag id arguments since reply p p
    shows_none indexes served none replied = record {
      replied = replied;
      served = subst (λ (i : List ℕ). AllByRecursion (Contains p.served) (with_edition edition.number i)) (sym (served ∙ none)) tt;
      grows = grows_itself p;
      keeps = record { given = refl; ended = refl };
    }

    -- the edition is too old
    pub shows_early : edition.number < since → IsFormatReply (IsAnswerIn edition.number edition tag id arguments since) edition.number reply
        → ShowsAt edition tag id arguments since reply p p
    shows_early early = shows_none [] (early_at p.log edition.number early) refl

    -- it has no such message
    pub shows_missing : since ≤ edition.number → found_along edition.items id (chain_of tag) ≡ None
        → IsFormatReply (IsAnswerIn edition.number edition tag id arguments since) edition.number reply → ShowsAt edition tag id arguments since reply p p
    shows_missing late none = shows_none [] (late_at p.log edition.number None late (items_are None none)) refl

    -- it has one
    pub shows_found : (q : Known) (found : Found) → since ≤ edition.number → found_along edition.items id (chain_of tag) ≡ Some found
        → ShowsFound edition found arguments reply p q → ShowsAt edition tag id arguments since reply p q
    shows_found q found late there shows = record {
      replied = found_reply edition tag id arguments since edition.number late found reply there shows.replied;
      served =
          subst (λ (i : List ℕ). AllByRecursion (Contains q.served) (with_edition edition.number i))
          (sym (late_at p.log edition.number (Some found) late (items_are (Some found) there))) (shows.served, tt);
      grows = shows.grows;
      keeps = shows.keeps;
    }

    -- it was pinned, and is let go
    pub shows_through : EditionsStay → (before q after : Known) → Grows before p → Keeps before p → Grows q after → Keeps q after
        → length before.log ≤ edition.number → ShowsAt edition tag id arguments since reply p q → Shows tag id arguments since reply before after
    shows_through stay before q after first kept last let_go from shows =
        let k : ℕ = edition.number in
        let whole = grows_through p q after shows.grows last in
        let same : edition_of after.log k ≡ edition = edition_stays stay p.log after.log k (grown p after whole) is.within ∙ sym is.is in
        let indexes : served_to after.log k tag id since ≡ served_to p.log k tag id since =
        ap (λ (e : EditionState). if nat_lt k since then [] else index_of (found_along e.items id (chain_of tag))) (same ∙ is.is) in
        record {
          k = k;
          from = from;
          within = (let a = longer p.log after.log (grown p after whole) in let b = is.within in omega arith);
          replied = subst (λ (e : EditionState). IsFormatReply (IsAnswerIn k e tag id arguments since) k reply) (sym same) shows.replied;
          served =
              subst (λ (i : List ℕ). AllByRecursion (Contains after.served) (with_edition k i)) (sym indexes)
              (all_kept (Contains q.served) (Contains after.served) (with_edition k (served_to p.log k tag id since)) last.served shows.served);
          grows = grows_through before p after first whole;
          keeps = keeps_through before p after kept (keeps_through p q after shows.keeps let_go);
        }

-- it found no memory between
pub misses_through : (many : ℕ) (before p q after : Known) → Grows before p → Keeps before p → Misses many p q → Grows q after → Keeps q after
    → Misses many before after
misses_through many before p q after first kept misses last let_go = record {
  grows = grows_through before p after first (grows_through p q after misses.grows last);
  gives = record {
    ended = let_go.ended ∙ misses.gives.ended ∙ kept.ended;
    least = (let a = kept.given in let b = misses.gives.least in let c = let_go.given in omega arith);
    most = (let a = kept.given in let b = misses.gives.most in let c = let_go.given in omega arith);
  };
}
