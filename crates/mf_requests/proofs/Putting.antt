-- Members and arguments that are put among others.
use Rattle.std.proofs.Common.{◌≡◌, ℕ, List, Bool, true, false, Option, Some, None, is_some, option_and_then, chars, Ordering, Less, Equal, Greater, is_eq, refl, sym, ap, ◌∙◌}
use Rattle.std.proofs.lemmas.Map.Text.{is_eq-slice_cmp}
use Rattle.std.proofs.lemmas.Slice.Eq.{bytes_eq-Decides}
use Rattle.std.specs.Cmp.Lexicographic.{nat_list_cmp_total, slice_cmp}
use Rattle.std.specs.Ordering.{match_ordering, nat_cmp}
use Rattle.std.specs.Prelude.{if◌then◌else◌}
use Rattle.unicode_normalization.specs.Forms.{nfc}
use Rattle.serde_json.specs.Data.{Data, Members, no_members, member, put}
use Rattle.serde_json.specs.Find.{get_member}
use Rattle.mf_text.specs.Arguments.{argument_named, with_argument, with_new_argument}
use Rattle.mf_text.specs.Order.{byte_cmp, byte_cmp_total}
use Rattle.mf_text.specs.declared.arguments.Argued.{Argued}
use Rattle.mf_wire.specs.Fields.{argued_from, arguments_from}
use Rattle.mf_text.proofs.Pairs.{byte_equal}
use Rattle.mf_requests.proofs.Entries as entries

differ : true ≡ false → ⊥
differ e = cc

-- ---- members

abbrev key_cmp : List ℕ → List ℕ → Ordering
key_cmp = slice_cmp nat_cmp

key_equal : (k l : List ℕ) → key_cmp k l ≡ Equal → k ≡ l
key_equal k l e = (bytes_eq-Decides k l).0 (sym (is_eq-slice_cmp k l) ∙ ap is_eq e)

there_by : (k l : List ℕ) (d e : Data) (ms : Members) → key_cmp k k ≡ Equal → (o : Ordering) → key_cmp k l ≡ o
    → get_member k (put k d ms) ≡ Some d → get_member k (put k d (member l e ms)) ≡ Some d
there_by k l d e ms self Less f more = rw (f, self) refl
there_by k l d e ms self Equal f more = rw (f, f) refl
there_by k l d e ms self Greater f more = rw (f, f) more

-- the member that was put
pub put_there : (k : List ℕ) (d : Data) (ms : Members) → get_member k (put k d ms) ≡ Some d
put_there k d no_members = rw (entries.itself key_cmp nat_list_cmp_total k) refl
put_there k d (member l e ms) = there_by k l d e ms (entries.itself key_cmp nat_list_cmp_total k) (key_cmp k l) refl (put_there k d ms)

passes : {A : Type 0} (o : Ordering) → (o ≡ Equal → ⊥) → (a : A) (rest : Option A) → match_ordering o rest (Some a) rest ≡ rest
passes Less apart a rest = refl
passes Equal apart a rest = absurd (apart refl)
passes Greater apart a rest = refl

kept_by : (k l m : List ℕ) (d e : Data) (ms : Members) → (key_cmp k l ≡ Equal → ⊥) → (o : Ordering) → key_cmp l m ≡ o
    → get_member k (put l d ms) ≡ get_member k ms → get_member k (put l d (member m e ms)) ≡ get_member k (member m e ms)
kept_by k l m d e ms apart Less f more = rw f (passes (key_cmp k l) apart d _)
kept_by k l m d e ms apart Equal f more =
    let other : key_cmp k m ≡ Equal → ⊥ = λ same. apart (ap (key_cmp k) (key_equal l m f) ∙ same) in
    rw f (passes (key_cmp k m) other d (get_member k ms) ∙ sym (passes (key_cmp k m) other e (get_member k ms)))
kept_by k l m d e ms apart Greater f more = rw f (ap (λ rest. match_ordering (key_cmp k m) rest (Some e) rest) more)

-- the other members stay
pub put_kept : (k l : List ℕ) (d : Data) (ms : Members) → (key_cmp k l ≡ Equal → ⊥) → get_member k (put l d ms) ≡ get_member k ms
put_kept k l d no_members apart = passes (key_cmp k l) apart d None
put_kept k l d (member m e ms) apart = kept_by k l m d e ms apart (key_cmp l m) refl (put_kept k l d ms apart)

-- ---- arguments

abbrev Named : Type 0
Named = List (List ℕ × Argued)

abbrev pick : {A : Type 0} → A → Option A → A
pick a None = a
pick a (Some b) = b

new_by : (found : Bool) (z y : Named) → (if found then None else Some z) ≡ Some y → (found ≡ false) × (z ≡ y)
new_by true z y e = absurd (cc)
new_by false z y e = (refl, ap (pick z) e)

-- a new argument's name wasn't there, and it is put among the others
new_argument : (x y : Named) (k : List ℕ) (a : Argued) → with_new_argument x k a ≡ Some y
    → (is_some (argument_named x k) ≡ false) × (with_argument x k a ≡ y)
new_argument x y k a e = new_by (is_some (argument_named x k)) (with_argument x k a) y e

as_new : (x : Named) (k : List ℕ) (a : Argued) → is_some (argument_named x k) ≡ false → with_new_argument x k a ≡ Some (with_argument x k a)
as_new x k a e = rw e refl

there : (x y : Named) (k : List ℕ) (a : Argued) → with_argument x k a ≡ y → argument_named y k ≡ Some a
there x y k a e = ap (λ z. argument_named z k) (sym e) ∙ entries.there byte_cmp byte_cmp_total x k a

-- a name that is new among arguments with one more differs from that one's
apart_names : (x y z : Named) (k l : List ℕ) (a b : Argued) → with_new_argument x l b ≡ Some y → with_new_argument y k a ≡ Some z
    → byte_cmp k l ≡ Equal → ⊥
apart_names x y z k l a b one two same =
    let first = new_argument x y l b one in
    let second = new_argument y z k a two in
    let found : is_some (argument_named y k) ≡ true =
    ap (λ m. is_some (argument_named y m)) (byte_equal k l same) ∙ ap is_some (there x y l b first.1) in
    differ (sym found ∙ second.0)

-- two new arguments may come in either order
swapped : (x y z : Named) (k l : List ℕ) (a b : Argued) → with_new_argument x l b ≡ Some y → with_new_argument y k a ≡ Some z
    → (mid : Named) × (with_new_argument x k a ≡ Some mid) × (with_new_argument mid l b ≡ Some z)
swapped x y z k l a b one two =
    let apart = apart_names x y z k l a b one two in
    let first = new_argument x y l b one in
    let second = new_argument y z k a two in
    let mid = with_argument x k a in
    let is_new : is_some (argument_named x k) ≡ false =
    ap is_some (sym (entries.kept byte_cmp byte_cmp_total byte_equal x k l b apart)) ∙ ap (λ w. is_some (argument_named w k)) first.1 ∙ second.0 in
    let other : is_some (argument_named mid l) ≡ false =
    ap is_some (entries.kept byte_cmp byte_cmp_total byte_equal x l k a (entries.apart_turned byte_cmp byte_cmp_total k l apart)) ∙ first.0 in
    let same : with_argument mid l b ≡ z =
    sym (entries.swaps byte_cmp byte_cmp_total byte_equal x k l a b apart) ∙ ap (λ w. with_argument w k a) first.1 ∙ second.1 in
    (mid, as_new x k a is_new, as_new mid l b other ∙ ap Some same)

and_then_some : {A B : Type 0} (o : Option A) (f : A → Option B) (b : B) → option_and_then f o ≡ Some b → (a : A) × (o ≡ Some a) × (f a ≡ Some b)
and_then_some None f b e = absurd (cc)
and_then_some (Some a) f b e = (a, refl, e)

-- the first of some arguments, and those after it
record First (l : List ℕ) (e : Data) (ms : Members) (before args : Named) : Type 0 where
  argued : Argued
  is : argued_from e ≡ Some argued
  so_far : Named
  new : with_new_argument before (nfc (chars l)) argued ≡ Some so_far
  more : arguments_from ms so_far ≡ Some args

first_of : (l : List ℕ) (e : Data) (ms : Members) (before args : Named) → arguments_from (member l e ms) before ≡ Some args → First l e ms before args
first_of l e ms before args given =
    let one = and_then_some (argued_from e)
    (λ argued. option_and_then (λ so_far. arguments_from ms so_far) (with_new_argument before (nfc (chars l)) argued)) args given in
    let two = and_then_some (with_new_argument before (nfc (chars l)) one.0) (λ so_far. arguments_from ms so_far) args one.2 in
    record { argued = one.0; is = one.1; so_far = two.0; new = two.1; more = two.2 }

put_first : (l : List ℕ) (e : Data) (ms : Members) (before so_far args : Named) (a : Argued) → argued_from e ≡ Some a
    → with_new_argument before (nfc (chars l)) a ≡ Some so_far → arguments_from ms so_far ≡ Some args
    → arguments_from (member l e ms) before ≡ Some args
put_first l e ms before so_far args a is new more = rw (is, new) more

-- an argument that is new behind others may come before them
moved : (k : List ℕ) (a : Argued) (ms : Members) (before args after : Named) → arguments_from ms before ≡ Some args
    → with_new_argument args k a ≡ Some after → (mid : Named) × (with_new_argument before k a ≡ Some mid) × (arguments_from ms mid ≡ Some after)
moved k a no_members before args after given new = (after, ap (λ x. with_new_argument x k a) (ap (pick before) given) ∙ new, refl)
moved k a (member l e ms) before args after given new =
    let first = first_of l e ms before args given in
    let rest = moved k a ms first.so_far args after first.more new in
    let both = swapped before first.so_far rest.0 k (nfc (chars l)) a first.argued first.new rest.1 in
    (both.0, both.1, put_first l e ms both.0 rest.0 after first.argued first.is both.2 rest.2)

put_by : (k l : List ℕ) (d e : Data) (a : Argued) (ms : Members) (before args after : Named) → argued_from d ≡ Some a
    → arguments_from (member l e ms) before ≡ Some args → with_new_argument args (nfc (chars k)) a ≡ Some after
    → (o : Ordering) → key_cmp k l ≡ o
    → ((so_far : Named) → arguments_from ms so_far ≡ Some args → arguments_from (put k d ms) so_far ≡ Some after)
    → arguments_from (put k d (member l e ms)) before ≡ Some after
put_by k l d e a ms before args after is given new Less f more =
    let rest = moved (nfc (chars k)) a (member l e ms) before args after given new in
    rw f (put_first k d (member l e ms) before rest.0 after a is rest.1 rest.2)
put_by k l d e a ms before args after is given new Equal f more =
    let first = first_of l e ms before args given in
    let rest = moved (nfc (chars k)) a ms first.so_far args after first.more new in
    let apart = apart_names before first.so_far rest.0 (nfc (chars k)) (nfc (chars l)) a first.argued first.new rest.1 in
    absurd (apart (ap (λ m. byte_cmp (nfc (chars k)) (nfc (chars m))) (sym (key_equal k l f)) ∙ entries.itself byte_cmp byte_cmp_total (nfc (chars k))))
put_by k l d e a ms before args after is given new Greater f more =
    let first = first_of l e ms before args given in
    rw f (put_first l e (put k d ms) before first.so_far after first.argued first.is first.new (more first.so_far first.more))

-- one more argument, wherever its name stands among the others
pub argument_put : (k : List ℕ) (d : Data) (a : Argued) (ms : Members) (before args after : Named) → argued_from d ≡ Some a
    → arguments_from ms before ≡ Some args → with_new_argument args (nfc (chars k)) a ≡ Some after
    → arguments_from (put k d ms) before ≡ Some after
argument_put k d a no_members before args after is given new =
    put_first k d no_members before after after a is (ap (λ x. with_new_argument x (nfc (chars k)) a) (ap (pick before) given) ∙ new) refl
argument_put k d a (member l e ms) before args after is given new =
    put_by k l d e a ms before args after is given new (key_cmp k l) refl
    (λ so_far more. argument_put k d a ms so_far args after is more new)
