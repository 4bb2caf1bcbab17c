-- What holds of edition k of a log holds of the newest edition of its first k entries.
use Rattle.std.proofs.Common.{◌≡◌, ◌∙◌, ℕ, ◌+◌, ◌≤◌, Bool, true, false, List, [], ◌∷◌, ◌++◌, length, take, nat_lt, ◌==◌, if◌then◌else◌, Result, Ok, Err, refl, ap, ap₂, sym, subst, subst₂, arith, append_assoc}
use Rattle.std.proofs.lemmas.Bool.{eqb-true}
use Rattle.std.proofs.lemmas.List.{length-take-le, take_all}
use Rattle.mf_text.specs.declared.arguments.Argued.{Argued}
use Rattle.mf_locale.specs.Chain.{chain_of}
use Rattle.mf_answer.specs.Answers.{IsAnswerIn}
use Rattle.mf_edition.specs.Edition.{edition_after, empty_edition, found_along}
use Rattle.mf_edition.specs.Sizes.{refusal_of}
use Rattle.mf_edition.specs.declared.change.Entry.{Entry}
use Rattle.mf_legal.specs.Calls.{Call}
use Rattle.mf_wire.specs.Replies.{reply_line}
use Rattle.mf_wire.specs.declared.reply.Reply.{Reply}
use Rattle.mf_wire.specs.declared.reply.Reply.TheVariants as reply
use Rattle.mf_wire.specs.declared.request.Request.{Request}
use Rattle.mf_wire.specs.declared.request.Request.TheVariants.{Format, Lint, Publish, Stat}
use Rattle.mf_transcript.specs.Asked.{request_of}
use Rattle.mf_transcript.specs.Lines.{served_in}
use Rattle.mf_transcript.specs.Replies.{IsFormatReply, IsLineOf}
use Rattle.mf_transcript.specs.Served.{count_among, in_edition, index_of, served_by, served_for, with_edition}
use Rattle.mf_transcript.specs.Steps.{Answers, Counts, Refuses}

pub in_edition-append : (k : ℕ) (some more : List (ℕ × ℕ)) → in_edition k (some ++ more) ≡ in_edition k some ++ in_edition k more
in_edition-append k [] more = refl
in_edition-append k (message ∷ some) more = by (message.0 == k) (in_edition-append k some more)
  where
    by : (b : Bool) → in_edition k (some ++ more) ≡ in_edition k some ++ in_edition k more
        → (if b then message.1 ∷ in_edition k (some ++ more) else in_edition k (some ++ more))
        ≡ (if b then message.1 ∷ in_edition k some else in_edition k some) ++ in_edition k more
    by true further = ap (λ l. message.1 ∷ l) further
    by false further = further

either_way : (b : Bool) (xs : List ℕ) → xs ≡ (if b then xs else xs)
either_way true xs = refl
either_way false xs = refl

pub in_edition-with : (k e : ℕ) (indexes : List ℕ) → in_edition k (with_edition e indexes) ≡ (if e == k then indexes else [])
in_edition-with k e [] = either_way (e == k) []
in_edition-with k e (index ∷ indexes) = by (e == k) (in_edition-with k e indexes)
  where
    by : (b : Bool) → in_edition k (with_edition e indexes) ≡ (if b then indexes else [])
        → (if b then index ∷ in_edition k (with_edition e indexes) else in_edition k (with_edition e indexes)) ≡ (if b then index ∷ indexes else [])
    by true further = ap (λ l. index ∷ l) further
    by false further = further

-- the messages that calls were answered from, each with its edition
abbrev pub all_served : List Entry → List (Call (List ℕ) (List ℕ)) → List (ℕ × ℕ)
all_served log [] = []
all_served log (call ∷ calls) = with_edition call.edition (served_by log call.edition call.line) ++ all_served log calls

pub all_served-append : (log : List Entry) (some more : List (Call (List ℕ) (List ℕ)))
    → all_served log (some ++ more) ≡ all_served log some ++ all_served log more
all_served-append log [] more = refl
all_served-append log (call ∷ some) more =
    ap (λ l. with_edition call.edition (served_by log call.edition call.line) ++ l) (all_served-append log some more)
    ∙ sym (append_assoc (with_edition call.edition (served_by log call.edition call.line)) (all_served log some) (all_served log more))

-- Two editions, each of a log of its own, that have one number and rest on the same entries.
module _ (log other : List Entry) (j k : ℕ) (number : j ≡ k) (front : take j log ≡ take k other) where
  -- what is said of an edition's number and its entries
  across : (R : ℕ → List Entry → Type 0) → R j (take j log) → R k (take k other)
  across R is = subst₂ R number front is

  pub served_same : (asked : Result Request Reply) → served_for log j asked ≡ served_for other k asked
  served_same (Ok (Format tag id arguments since)) =
      ap₂ (λ n (l : List Entry). if nat_lt n since then [] else index_of (found_along (edition_after empty_edition l).items id (chain_of tag))) number front
  served_same (Ok (Publish change)) = refl
  served_same (Ok (Lint source)) = refl
  served_same (Ok Stat) = refl
  served_same (Err refusal) = refl

  module _ (line said : List ℕ) where
    pub refuses_same : Refuses log j line said → Refuses other k line said
    refuses_same is = record {
      change = is.change;
      refusal = is.refusal;
      asked = is.asked;
      replied = is.replied;
      due = ap (λ l. refusal_of l is.change) (sym front) ∙ is.due;
    }

    Answering : List ℕ → List ℕ → List (List ℕ × Argued) → ℕ → ℕ → List Entry → Type 0
    Answering tag id arguments since n l =
        IsLineOf (IsFormatReply (IsAnswerIn n (edition_after empty_edition l) tag id arguments since) n) said

    pub answers_same : Answers log j line said → Answers other k line said
    unfolding Answering
    answers_same is = record {
      tag = is.tag;
      id = is.id;
      arguments = is.arguments;
      since = is.since;
      asked = is.asked;
      replied = across (Answering is.tag is.id is.arguments is.since) is.replied;
    }

    Counting : List ℕ → ℕ → ℕ → ℕ → List Entry → Type 0
    Counting served starts quits n l =
        (said ≡ reply_line (reply.Stat n starts quits))
        × (quits + count_among served (length (edition_after empty_edition l).items) ≤ starts)
        × (starts ≤ quits + length (edition_after empty_edition l).items)

    pub counts_same : (served others : List ℕ) → served ≡ others → Counts log j served line said → Counts other k others line said
    unfolding Counting
    counts_same served others same is =
        let least = subst (λ l. is.quits + count_among l (length (edition_after empty_edition (take j log)).items) ≤ is.starts) same is.least in
        let all = across (Counting others is.starts is.quits) (is.replied, least, is.most) in
        record { starts = is.starts; quits = is.quits; asked = is.asked; replied = all.0; least = all.1; most = all.2 }

module _ (log : List Entry) (k : ℕ) (inside : k ≤ length log) where
  pub front_length : length (take k log) ≡ k
  front_length = length-take-le k log inside

  pub front_again : take (length (take k log)) (take k log) ≡ take k log
  front_again = take_all (length (take k log)) (take k log) (omega arith)

  -- the messages of edition k that calls were answered from
  pub served_in_front : (earlier : List (Call (List ℕ) (List ℕ))) → in_edition k (all_served log earlier) ≡ served_in (take k log) earlier
  served_in_front [] = refl
  served_in_front (call ∷ calls) =
      in_edition-append k (with_edition call.edition (served_by log call.edition call.line)) (all_served log calls)
      ∙ ap₂ (λ l m. l ++ m)
      (in_edition-with k call.edition (served_by log call.edition call.line)
      ∙ by (call.edition == k) refl ∙ ap (λ n. if call.edition == n then served_by (take k log) (length (take k log)) call.line else []) (sym front_length))
      (served_in_front calls)
    where
      by : (b : Bool) → (call.edition == k) ≡ b
          → (if b then served_by log call.edition call.line else []) ≡ (if b then served_by (take k log) (length (take k log)) call.line else [])
      by true is =
          ap (λ n. served_by log n call.line) (eqb-true call.edition k is)
          ∙ served_same log (take k log) k (length (take k log)) (sym front_length) (sym front_again) (request_of call.line)
      by false is = refl
