-- Sizes counted one after the other.
use Rattle.std.proofs.Common.{◌≡◌, ◌<◌, ◌≤◌, ◌+◌, ◌^◌, ℕ, Bool, true, false, None, Some, cond, nat_le, List, [], ◌∷◌, ◌++◌, encode_utf8_all, length, map, get_or, take, suc, zero, refl, ap, sym, ◌∙◌, arith}
use Rattle.std.proofs.Common.{codes, length-append}
use Rattle.std.proofs.lemmas.Bool.Decides.{nat_tests}
use Rattle.std.proofs.lemmas.List.{length-map, map-append, take_more}
use Rattle.std.proofs.lemmas.Str.{encodes-append}
use Rattle.std.specs.Arc.{arc_value}
use Rattle.std.specs.declared.alloc.Global.{Global}
use Rattle.std.specs.declared.sync.Arc.{Arc}
use Rattle.mf_text.specs.declared.pair.Pair.{Pair}
use Rattle.mf_edition.specs.declared.change.Change.{Change}
use Rattle.mf_edition.specs.declared.change.Change.TheVariants.{Catalogue, Locale, Handler}
use Rattle.mf_edition.specs.declared.change.Entry.{Entry}
use Rattle.mf_edition.specs.declared.error.Refusal.TheVariants.{EditionsFull, StoreFull}
use Rattle.mf_edition.specs.Items.{Item, item_values, message_of}
use Rattle.mf_edition.specs.Catalogues.{catalogue_of, AreInIdOrder, IsCatalogue}
use Rattle.mf_edition.specs.Catalogues.{Catalogue as Known}
use Rattle.mf_edition.specs.Edition.{empty_edition, message_count, newest_edition, HasRoom}
use Rattle.mf_edition.specs.Sizes.{byte_count, least_size, messages_by, pairs_size, most_bytes, most_entries, refusal_of, shown, size_of, used_by, IsWithin, LongerLogsUseMore}
use Rattle.mf_edition.proofs.EditionLaws.{newest_number}
use Rattle.mf_edition.proofs.Growth.{length-after, length-changed}
use Rattle.std.specs.Cmp.Lexicographic.{slice_cmp}
use Rattle.std.specs.List.{AllByRecursion}
use Rattle.std.specs.List.Sorted.{IsStrictlySortedBy}
use Rattle.std.specs.Ordering.{nat_cmp}
use Rattle.std.specs.declared.cmp.Ordering.TheVariants.{Less}
use Rattle.mf_text.specs.Order.{byte_cmp}

pairs_size-push : (messages : List Pair) (message : Pair) → pairs_size (messages ++ message ∷ []) ≡ pairs_size messages + (byte_count message.name + byte_count message.value)
pairs_size-push [] message = omega arith
pairs_size-push (first ∷ messages) message = let rest = pairs_size-push messages message in omega arith

-- a size that is cut off once is cut off at the end
pub shown_more : (a b c : ℕ) → shown (shown (shown a + b) + c) ≡ shown (a + (b + c))
shown_more a b c = omega arith

-- one more item
items_size_more : (i : ℕ) (items : List (Arc Item Global)) (item : Arc Item Global) → i < length items → item ≡ get_or items i item
    → pairs_size (map message_of (item_values (take (i + 1) items))) ≡ pairs_size (map message_of (item_values (take i items))) + (byte_count (arc_value item).id + byte_count (arc_value item).source)
items_size_more i items item inside is =
    let here = get_or items i item in
    ap (λ more. pairs_size (map message_of (item_values more))) (take_more items i item inside)
    ∙ ap (λ values. pairs_size (map message_of values)) (map-append arc_value (take i items) (here ∷ []))
    ∙ ap pairs_size (map-append message_of (item_values (take i items)) (arc_value here ∷ []))
    ∙ pairs_size-push (map message_of (item_values (take i items))) (message_of (arc_value here))
    ∙ ap (λ (shared : Arc Item Global). pairs_size (map message_of (item_values (take i items))) + (byte_count (arc_value shared).id + byte_count (arc_value shared).source)) (sym is)

pub size_more : (head i : ℕ) (items : List (Arc Item Global)) (item : Arc Item Global) → i < length items → item ≡ get_or items i item
    → shown (shown (shown (head + pairs_size (map message_of (item_values (take i items)))) + byte_count (arc_value item).id) + byte_count (arc_value item).source)
    ≡ shown (head + pairs_size (map message_of (item_values (take (i + 1) items))))
size_more head i items item inside is =
    let pushed = items_size_more i items item inside is in
    shown_more (head + pairs_size (map message_of (item_values (take i items)))) (byte_count (arc_value item).id) (byte_count (arc_value item).source)
    ∙ ap shown (omega arith)

-- one more pair
pub pairs_more : (head i : ℕ) (pairs : List Pair) (pair : Pair) → i < length pairs → pair ≡ get_or pairs i pair
    → shown (shown (shown (head + pairs_size (take i pairs)) + byte_count pair.name) + byte_count pair.value) ≡ shown (head + pairs_size (take (i + 1) pairs))
pairs_more head i pairs pair inside is =
    let pushed : pairs_size (take (i + 1) pairs) ≡ pairs_size (take i pairs) + (byte_count pair.name + byte_count pair.value) =
    ap pairs_size (take_more pairs i pair inside)
    ∙ pairs_size-push (take i pairs) (get_or pairs i pair)
    ∙ ap (λ (p : Pair). pairs_size (take i pairs) + (byte_count p.name + byte_count p.value)) (sym is) in
    shown_more (head + pairs_size (take i pairs)) (byte_count pair.name) (byte_count pair.value) ∙ ap shown (omega arith)

colon_size : byte_count (codes ":") ≡ 1
unfolding lib.Utf8.encode
colon_size = refl

-- a name in a namespace, as it is shown
pub name_size : (size : ℕ) (namespace name : List ℕ)
    → shown (shown (shown (size + byte_count namespace) + 1) + byte_count name) ≡ shown (size + byte_count ((namespace ++ codes ":") ++ name))
name_size size namespace name =
    let front = ap length (encodes-append namespace (codes ":")) ∙ length-append (encode_utf8_all namespace) (encode_utf8_all (codes ":")) in
    let whole = ap length (encodes-append (namespace ++ codes ":") name) ∙ length-append (encode_utf8_all (namespace ++ codes ":")) (encode_utf8_all name) in
    let colon = colon_size in
    shown_more (size + byte_count namespace) 1 (byte_count name) ∙ ap shown (omega arith)

-- of messages in the byte order of their ids only the first may have an id of no bytes
byte_count-below : (low high : List ℕ) → byte_cmp low high ≡ Less → 1 ≤ byte_count high
byte_count-below low high less = by (encode_utf8_all low) (encode_utf8_all high) less
  where
    by : (a b : List ℕ) → slice_cmp nat_cmp a b ≡ Less → 1 ≤ length b
    by [] [] less = cc
    by (x ∷ a) [] less = cc
    by a (y ∷ b) less = omega arith

ids_above : (low : Item) (items : List Item) → AllByRecursion (λ item. byte_cmp low.id item.id ≡ Less) items → length items ≤ pairs_size (map message_of items)
ids_above low [] above = omega arith
ids_above low (item ∷ items) above =
    let one = byte_count-below low.id item.id above.0 in
    let rest = ids_above low items above.1 in
    omega arith

pub messages_counted : (items : List Item) → AreInIdOrder items → length items ≤ 1 + pairs_size (map message_of items)
unfolding IsStrictlySortedBy
messages_counted [] up = omega arith
messages_counted (item ∷ items) up = let rest = ids_above item items up.0 in omega arith

-- so a catalogue counts for no fewer bytes than it has messages
pub counted_size : (tag : List ℕ) (items : List Item) (catalogue : Known) (size : ℕ)
    → size ≡ shown (least_size + byte_count tag + pairs_size (map message_of items)) → IsCatalogue tag items → catalogue_of tag items ≡ catalogue → length items < 2 ^ 64
    → length catalogue.messages ≤ size
counted_size tag items catalogue size is kept seen few =
    let counted = messages_counted items kept.ascending in
    let count : length catalogue.messages ≡ length items = ap (λ (c : Known). length c.messages) (sym seen) ∙ length-map items message_of in
    omega arith

-- one more entry
pub used_push : (log : List Entry) (entry : Entry) → used_by (log ++ entry ∷ []) ≡ used_by log + size_of entry.change
used_push [] entry = omega arith
used_push (first ∷ log) entry = let rest = used_push log entry in omega arith

messages_push : (log : List Entry) (entry : Entry) → messages_by (log ++ entry ∷ []) ≡ messages_by log + message_count entry.change
messages_push [] entry = omega arith
messages_push (first ∷ log) entry = let rest = messages_push log entry in omega arith

-- what there is room for where nothing refuses a change
pub has_room : (log : List Entry) (change : Change) → refusal_of log change ≡ None → (length log < most_entries) × (used_by log + size_of change ≤ most_bytes)
has_room log change none = by (nat_le most_entries (length log)) (nat_le (used_by log + size_of change) most_bytes) refl refl none
  where
    by : (full large : Bool) → nat_le most_entries (length log) ≡ full → nat_le (used_by log + size_of change) most_bytes ≡ large
        → cond full (Some (EditionsFull (length log))) (cond large None (Some (StoreFull (used_by log) (size_of change)))) ≡ None
        → (length log < most_entries) × (used_by log + size_of change ≤ most_bytes)
    by true large e l refused = cc
    by false true e l refused = (grind (arith, nat_tests, e), grind (arith, nat_tests, l))
    by false false e l refused = cc

-- so the newest edition has room for it too
pub room_from : (log : List Entry) (change : Change) → messages_by log ≤ used_by log → message_count change ≤ size_of change → refusal_of log change ≡ None
    → HasRoom (newest_edition log) change
room_from log change counted more none =
    let room = has_room log change none in
    let now = length-after empty_edition log in
    let then = length-changed (newest_edition log).items change in
    let number = newest_number log in
    record { items = omega arith; number = omega arith }

-- so the log stays within its bounds
pub within_push : (log : List Entry) (entry : Entry) (used : ℕ) → refusal_of log entry.change ≡ None → used ≡ used_by log + size_of entry.change
    → messages_by log ≤ used_by log → message_count entry.change ≤ size_of entry.change → IsWithin (log ++ entry ∷ []) used
within_push log entry used none is before more =
    let room = has_room log entry.change none in
    let long = length-append log (entry ∷ []) in
    let messages = messages_push log entry in
    let bytes = used_push log entry in
    record { few = omega arith; exact = is ∙ sym bytes; small = omega arith; counted = omega arith }

-- each change uses some bytes
size_of-least : (change : Change) → least_size ≤ size_of change
size_of-least (Catalogue catalogue) = omega arith
size_of-least (Locale tag place size) = omega arith
size_of-least (Handler handler) = omega arith

used_front : (log : List Entry) (j k : ℕ) → j < k → k ≤ length log → used_by (take j log) < used_by (take k log)
used_front log j zero below inside = absurd (omega arith)
used_front [] j (suc k) below inside = absurd (omega arith)
used_front (entry ∷ log) zero (suc k) below inside = let one = size_of-least entry.change in omega arith
used_front (entry ∷ log) (suc j) (suc k) below inside = let rest = used_front log j k (omega arith) (omega arith) in omega arith

pub longer : LongerLogsUseMore
longer = used_front
