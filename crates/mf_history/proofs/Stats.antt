-- Replies with the counts of an edition.
use Rattle.std.proofs.Common.{◌≡◌, ◌≢◌, ℕ, zero, suc, ◌+◌, ◌<◌, ◌≤◌, ◌^◌, List, [], ◌∷◌, Option, Some, Ok, length, take, ap, sym, subst, arith}
use Rattle.std.specs.BTreeSet.{btree_set_len}
use Rattle.mf_edition.proofs.Growth.{length-after}
use Rattle.mf_edition.specs.Edition.{edition_of, empty_edition}
use Rattle.mf_edition.specs.Sizes.{messages_by, used_by, IsWithin}
use Rattle.mf_edition.specs.declared.change.Entry.{Entry}
use Rattle.mf_transcript.specs.Asked.{request_of}
use Rattle.mf_transcript.specs.Lines.{ShowsAtMost}
use Rattle.mf_transcript.specs.Served.{count_among, in_edition}
use Rattle.mf_transcript.specs.Steps.{is_counted, sees, Standing, Step}
use Rattle.mf_wire.specs.Replies.{memory_line, reply_line}
use Rattle.mf_wire.specs.declared.reply.Reply.TheVariants as reply
use Rattle.mf_wire.specs.declared.request.Request.TheVariants.{Stat}
use Rattle.mf_history.specs.Numbers.{FindsCounts}
use Rattle.mf_history.specs.Places.{Goes, Moves, StandsAs}
use Rattle.mf_history.specs.declared.front.Front.{Front}
use Rattle.mf_history.specs.declared.numbers.Counts.{Counts}
use Rattle.mf_history.specs.declared.place.Place.{Place}
use Rattle.mf_history.proofs.Cases.{counted}
use Rattle.mf_transcript.proofs.Shown.{stat_shows}
use Rattle.mf_history.proofs.Standing.{moved, stands_at}

messages_upto : (log : List Entry) (k : ℕ) → messages_by (take k log) ≤ messages_by log
messages_upto log zero = omega arith
messages_upto [] (suc k) = omega arith
messages_upto (entry ∷ log) (suc k) = omega (arith, messages_upto log k)

-- an edition of a log within its limits has few messages
pub items_few : (log : List Entry) (k : ℕ) → IsWithin log (used_by log) → length (edition_of log k).items < 2 ^ 32
items_few log k within = omega (arith, length-after empty_edition (take k log), messages_upto log k, within.counted, within.small)

module _ (most : ℕ) (log : List Entry) (caller : ℕ) (line said : List ℕ) (asked : request_of line ≡ Ok Stat)
    (old new : Place) (before : Standing) (stands : StandsAs log old before) where
  -- the counts that a line would have to have, if it fits
  pub record HasCounts (found : Option Counts) : Type 0 where
    pub k : ℕ
    pub starts : ℕ
    pub quits : ℕ
    pub from : old.front.edition.number ≤ k
    pub inside : k ≤ length log
    pub few : quits ≤ most
    pub least : quits + count_among (in_edition k before.served) (length (edition_of log k).items) ≤ starts
    pub greatest : starts ≤ quits + length (edition_of log k).items
    pub replied : said ≡ reply_line (reply.Stat k starts quits)
    pub is : found ≡ Some (record { edition = k; starts = starts; quits = quits })

  pub has_counts : IsWithin log (used_by log) → most ≤ 2 ^ 63 → said ≢ memory_line → (found : Option Counts) → FindsCounts said found
      → (after : Standing) → Step log caller line said before after → ShowsAtMost most said → HasCounts found
  has_counts within small loud found finds after step shows =
      counted log caller line said before (HasCounts found) loud asked
      (λ k is from inside.
      let few : is.quits ≤ most = shows k is.starts is.quits is.replied in
      let items = items_few log k within in record {
        k = k;
        starts = is.starts;
        quits = is.quits;
        from = omega (arith, from, stands_at log old before stands);
        inside = inside;
        few = few;
        least = is.least;
        greatest = is.most;
        replied = is.replied;
        is = finds k is.starts is.quits (omega (arith, inside, within.few)) (omega (arith, is.most, few, small, items)) (omega (arith, few, small)) is.replied;
      })
      after step

  module _ (moves : Moves log old new) (k : ℕ) (there : new.front.edition.number ≡ k) where
    pub counts_served : btree_set_len new.served ≡ count_among (in_edition k before.served) (length (edition_of log k).items)
    counts_served = (moved log old before stands new moves k there).served.count

    pub counts_items : length new.front.edition.items ≡ length (edition_of log k).items
    counts_items = ap (λ (f : Front). length f.edition.items) (moved log old before stands new moves k there).front

    pub counts_go : (starts quits : ℕ) → quits < 2 ^ 64 → quits ≤ most → quits + btree_set_len new.served ≤ starts → starts ≤ quits + length new.front.edition.items
        → said ≡ reply_line (reply.Stat k starts quits) → Goes most log caller line said before new
    counts_go starts quits small few least greatest replied = record {
      after = sees before k;
      step = is_counted k
          (record {
            starts = starts;
            quits = quits;
            asked = asked;
            replied = replied;
            least = omega (arith, least, counts_served);
            most = omega (arith, greatest, counts_items);
          })
          (omega (arith, moves.later.from, there, stands_at log old before stands)) (omega (arith, moves.later.front.within, there));
      quits = subst (ShowsAtMost most) (sym replied) (stat_shows k starts quits most small few);
      stands = moved log old before stands new moves k there;
    }
