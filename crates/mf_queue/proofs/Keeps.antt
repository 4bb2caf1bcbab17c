-- Each step of a queue keeps its rule.
use Rattle.std.proofs.Common.{◌≡◌, ◌≢◌, ℕ, zero, suc, ◌+◌, ◌%◌, ◌^◌, ◌<◌, eqb, List, [], ◌∷◌, ◌++◌, map, get_or, set, sym, refl, ap, ◌∙◌, subst, arith, mod-eq_of_lt, Option, Some, None}
use mathlib.Core.Logic.{dite}
use native.Mathlib.Decide.{ℕ_discrete}
use mathlib.Core.Option.{none, some, some-ne-none, some-injective}
use mathlib.Core.Option as maybe
use mathlib.Core.List.{map-append}
use lib.ListN.{get_elem?, length-map}
use lib.Seq.{map-set, set-get_or}
use prog.Atomic.{either}
use Rattle.atomic_table.specs.Table.{State, step, Act, keeps, takes, gives, Valid, carried_after, stepped, Allows, Splits, Joins, opening}
use Rattle.atomic_table.proofs.Lists.{set_again, at_map, exchanged}
use Rattle.std.specs.declared.snapshot.Snapshot.{Snapshot}
use Rattle.mf_queue.specs.declared.parts.Knowledge.{Knowledge}
use Rattle.mf_queue.specs.declared.parts.Stage.{Stage}
use Rattle.mf_queue.specs.declared.parts.Stage.TheVariants.{Idle, Waiting, Holding}
use Rattle.mf_queue.specs.declared.parts.Item.{Item}
use Rattle.mf_queue.specs.declared.parts.Item.TheVariants.{Away, Home, Coming}
use Rattle.mf_queue.specs.Line.{Agrees, Line}
use Rattle.mf_queue.specs.Queue.{standing, idle, stage_of, view_of, at_home, Queued, Sitter}
use Rattle.mf_queue.specs.Steps.{Draws, Looks, Ends, Counts, Stands, Raises}
use Rattle.mf_queue.specs.Duties.{MayTake, MayGive, MayRaise, MayCount, MaySplit, MayJoin}
use Rattle.mf_queue.proofs.Lines.{agrees_at, idle_holds_none, holder_sits, restated, drawn_next, free_at, taken_now, ended_now, told_now, one_more}

module _ {T A : Type 0} where
  -- what lies in the first slot that is out
  abbrev value_out : T → List (ℕ × Item T A) → T
  value_out y [] = y
  value_out y ((n, Away) ∷ cs) = y
  value_out y ((n, Home z m) ∷ cs) = z
  value_out y ((n, Coming z) ∷ cs) = y

  abbrev mark_out : Snapshot A → List (ℕ × Item T A) → Snapshot A
  mark_out m [] = m
  mark_out m ((n, Away) ∷ cs) = m
  mark_out m ((n, Home z l) ∷ cs) = l
  mark_out m ((n, Coming z) ∷ cs) = m

  abbrev coming_in : Snapshot T → maybe.Option (Item T A) → Snapshot T
  coming_in y none = y
  coming_in y (some Away) = y
  coming_in y (some (Home z m)) = y
  coming_in y (some (Coming z)) = z

module _ {T V : Type 0} (A : Type 0) (holds : ℕ → T → Option ℕ → List V → Type 0) where
  abbrev K : Type 0
  K = Knowledge T V

  abbrev St : Type 0
  St = State (Item T A) K

  abbrev Me : Type 0
  Me = Sitter T A V

  abbrev R : St → Type 0
  R = Queued holds

  -- the step can go on: the seat has a view and an act that keep the rule
  abbrev Goes : St → ℕ → ℕ → Me → (ℕ → Me → Type 0) → ℕ → Type 0
  Goes s word id me then n = (w : K) × (a : Act (Item T A)) × Valid s.homes me.1 a × R (stepped s word n id me.1 w a) × then (get_or s.words word 0) (w, carried_after me.1 a)

  drawn_word : (s : St) (r : R s) → get_or s.words 0 0 ≡ r.drawn
  drawn_word s r = ap (λ (ws : List ℕ). get_or ws 0 0) r.words

  served_word : (s : St) (r : R s) → get_or s.words 1 0 ≡ r.served
  served_word s r = ap (λ (ws : List ℕ). get_or ws 1 0) r.words

  count_word : (s : St) (r : R s) → get_or s.words 2 0 ≡ r.count
  count_word s r = ap (λ (ws : List ℕ). get_or ws 2 0) r.words

  view_at : (s : St) (id : ℕ) (k : K) → get_elem? s.views id ≡ some k → get_elem? (map view_of s.views) id ≡ some k.view
  view_at s id k at = at_map view_of s.views id k at

  -- what the queue says of where a seat stands
  stands_at : (s : St) (r : R s) (id : ℕ) (k : K) (st : Stage (T × ℕ)) → get_elem? s.views id ≡ some k → k.stage ≡ st → Agrees r.drawn r.served (r.value, r.count) r.holder r.line.owner id st
  stands_at s r id k st at is = agrees_at stage_of at_home 0 s.homes s.views r.drawn r.served (r.value, r.count) r.holder r.line id k st at is

  -- a seat knows something else, stands where it stood, and the words are what they were
  viewed : (s : St) (r : R s) (id : ℕ) (k l : K) (ws : List ℕ) → get_elem? s.views id ≡ some k → l.stage ≡ k.stage → ws ≡ s.words
      → holds r.count r.value r.holder (set (map view_of s.views) id l.view) → R record { words = ws; homes = s.homes; views = set s.views id l }
  viewed s r id k l ws at same is client = record {
    drawn = r.drawn;
    served = r.served;
    count = r.count;
    value = r.value;
    holder = r.holder;
    words = is ∙ r.words;
    line = restated stage_of at_home 0 s.homes s.views r.drawn r.served (r.value, r.count) r.holder r.line id k l at same;
    client = subst (holds r.count r.value r.holder) (sym (map-set view_of s.views id l)) client;
  }

  -- nothing changes
  unmoved : (s : St) (r : R s) (word id : ℕ) (me : Me) → get_elem? s.views id ≡ some me.0 → R (stepped s word (get_or s.words word 0) id me.1 me.0 keeps)
  unmoved s r word id me at = viewed s r id me.0 me.0 (set s.words word (get_or s.words word 0)) at refl (set-get_or s.words word 0)
      (subst (holds r.count r.value r.holder) (sym (set_again (map view_of s.views) id me.0.view (view_at s id me.0 at))) r.client)

  pub draws : (slots id : ℕ) (me : Me) (old new : ℕ) → me.0.stage ≡ Idle → new ≡ old + 1 → new < 2 ^ 64
      → Allows R slots id me 0 (λ n. either (eqb n old) new n) (Draws (step slots 0 old new none) me)
  draws slots id me old new free up small s r wide at _ = let n : ℕ = get_or s.words 0 0 in exchanged n old new (Goes s 0 id me (Draws (step slots 0 old new none) me))
      (λ hit. let l : K = standing (Waiting r.drawn) me.0.view in let here : n ≡ r.drawn = drawn_word s r in let next : new ≡ r.drawn + 1 = up ∙ ap (λ (z : ℕ). z + 1) (sym hit ∙ here) in (
        l,
        keeps,
        tt,
        record {
          drawn = r.drawn + 1;
          served = r.served;
          count = r.count;
          value = r.value;
          holder = r.holder;
          words = ap (λ (ws : List ℕ). set ws 0 new) r.words ∙ ap (λ (z : ℕ). z ∷ r.served ∷ r.count ∷ []) next;
          line = drawn_next stage_of at_home 0 s.homes s.views r.drawn r.served (r.value, r.count) r.holder r.line id me.0 l at free refl (omega arith);
          client = subst (holds r.count r.value r.holder) (sym (map-set view_of s.views id l ∙ set_again (map view_of s.views) id me.0.view (view_at s id me.0 at))) r.client;
        },
        (refl, refl, λ _. ap Waiting (sym here), λ miss. absurd (miss hit)),
      ))
      (λ miss. (me.0, keeps, tt, unmoved s r 0 id me at, (refl, refl, λ hit. absurd (miss hit), λ _. refl)))

  pub looks : (then : V → ℕ → T → V → Type 0) (slots id : ℕ) (me : Me) (p : ℕ) → me.0.stage ≡ Waiting p → MayTake holds id me.0.view then
      → Allows R slots id me 1 (λ n. n) (Looks then (step slots 1 0 0 none) me)
  looks then slots id me p waits law s r wide at _ = dite (ℕ_discrete (get_or s.words 1 0) p) taking passing
    where
      here : get_or s.words 1 0 ≡ r.served
      here = served_word s r

      passing : (get_or s.words 1 0 ≢ p) → Goes s 1 id me (Looks then (step slots 1 0 0 none) me) (get_or s.words 1 0)
      passing miss = (me.0, keeps, tt, unmoved s r 1 id me at, λ q is. let same : p ≡ q = cc in ((λ hit. absurd (miss (hit ∙ sym same))), λ _. refl))

      taking : get_or s.words 1 0 ≡ p → Goes s 1 id me (Looks then (step slots 1 0 0 none) me) (get_or s.words 1 0)
      taking hit = let x : T × ℕ = (r.value, r.count) in
          let mine : me.0.stage ≡ Waiting r.served = waits ∙ ap Waiting (sym hit ∙ here) in
          let nobody : r.holder ≡ None = free_at stage_of at_home 0 s.homes s.views r.drawn r.served x r.holder r.line id me.0 at mine in
          let line = subst (Line stage_of at_home 0 s.homes s.views r.drawn r.served x) nobody r.line in
          let t = law r.count r.value (map view_of s.views) (subst (λ (h : Option ℕ). holds r.count r.value h (map view_of s.views)) nobody r.client) (view_at s id me.0 at) in
          let l : K = standing (Holding r.served x) t.0 in (
            l,
            takes 0 (Home r.value line.lies.0),
            line.lies.1,
            record {
              drawn = r.drawn;
              served = r.served;
              count = r.count;
              value = r.value;
              holder = Some id;
              words = set-get_or s.words 1 0 ∙ r.words;
              line = taken_now stage_of at_home 0 s.homes s.views r.drawn r.served x line id me.0 l at mine refl;
              client = subst (holds r.count r.value (Some id)) (sym (map-set view_of s.views id l)) t.1;
            },
            (λ q is. let same : p ≡ q = cc in (
              (λ _. (r.value, r.count, line.lies.0, ap (λ (z : ℕ). Holding z x) (sym here ∙ hit ∙ same), refl, t.2)),
              λ miss. absurd (miss (hit ∙ same)),
            )),
          )

  -- the value and the count, as the queue has them
  abbrev taken_in : (s : St) → R s → T × ℕ
  taken_in s r = (r.value, r.count)

  -- the client's rule, while the seat holds the turn
  client_at : (s : St) (r : R s) (x : T × ℕ) (id : ℕ) → r.holder ≡ Some id → x ≡ taken_in s r → holds x.1 x.0 (Some id) (map view_of s.views)
  client_at s r x id mine same = subst (λ (z : Option ℕ × T × ℕ). holds z.2 z.1 z.0 (map view_of s.views)) (λ i. (mine i, (sym same i).0, (sym same i).1)) r.client

  -- the line, while the seat holds the turn
  line_at : (s : St) (r : R s) (x : T × ℕ) (id : ℕ) → r.holder ≡ Some id → x ≡ taken_in s r → Line stage_of at_home 0 s.homes s.views r.drawn r.served x (Some id)
  line_at s r x id mine same = subst (λ (z : Option ℕ × T × ℕ). Line stage_of at_home 0 s.homes s.views r.drawn r.served (z.1, z.2) z.0) (λ i. (mine i, (sym same i).0, (sym same i).1)) r.line

  pub ends : (then : V → ℕ → T → A → T → V → Type 0) (slots id : ℕ) (k : K) (out : List (ℕ × Item T A)) (p : ℕ) (x : T) (count : ℕ) (y : T) (mark : Snapshot A)
      → k.stage ≡ Holding p (x, count) → out ≡ (0, Home y mark) ∷ [] → MayGive holds id k.view count x mark.value y then
      → Allows R slots id (k, out) 1 (λ n. (n + 1) % 2 ^ 64) (Ends then (step slots 1 1 0 none) (k, out))
  ends then slots id k out p x count y mark is has law = subst (λ (o : List (ℕ × Item T A)). Allows R slots id (k, o) 1 (λ n. (n + 1) % 2 ^ 64) (Ends then (step slots 1 1 0 none) (k, o))) (sym has)
      (λ s r wide at _. let a = stands_at s r id k (Holding p (x, count)) at is in let low : p < r.drawn = a.1 in let now : p ≡ r.served = a.0 in let small : r.drawn < 2 ^ 64 = r.line.small in
      let next : (get_or s.words 1 0 + 1) % 2 ^ 64 ≡ r.served + 1 = ap (λ (z : ℕ). (z + 1) % 2 ^ 64) (served_word s r) ∙ mod-eq_of_lt (omega arith) in
      let t = law (map view_of s.views) (client_at s r (x, count) id a.3 a.4) (view_at s id k at) in
      let l : K = idle t.0 in (
        l,
        gives,
        tt,
        record {
          drawn = r.drawn;
          served = r.served + 1;
          count = count;
          value = y;
          holder = None;
          words = ap (λ (ws : List ℕ). set ws 1 ((get_or s.words 1 0 + 1) % 2 ^ 64)) r.words
              ∙ (λ i. r.drawn ∷ next i ∷ (sym a.4 i).1 ∷ []);
          line = ended_now stage_of at_home 0 s.homes s.views r.drawn r.served (x, count) id (line_at s r (x, count) id a.3 a.4) k l p (y, count) mark at is refl;
          client = subst (holds count y None) (sym (map-set view_of s.views id l)) t.1;
        },
        (λ p' x' count' y' mark' is' has'. let same : (x, count) ≡ (x', count') = cc in
            let same_y : y ≡ y' = ap (value_out y) has' in let same_mark : mark ≡ mark' = ap (mark_out mark) has' in
            (refl, refl, subst (λ (z : (T × ℕ) × T × Snapshot A). then k.view z.0.1 z.0.0 z.2.value z.1 t.0) (λ i. (same i, same_y i, same_mark i)) t.2)),
      ))

  pub counts : (then : V → ℕ → T → V → Type 0) (slots id : ℕ) (me : Me) → MayCount holds id me.0.view then → Allows R slots id me 2 (λ n. n) (Counts then (step slots 2 0 0 none) me)
  counts then slots id me law s r wide at _ =
      let t = law r.count r.value r.holder (map view_of s.views) r.client (view_at s id me.0 at) in let l : K = standing me.0.stage t.0 in (
        l,
        keeps,
        tt,
        viewed s r id me.0 l (set s.words 2 (get_or s.words 2 0)) at refl (set-get_or s.words 2 0) t.1,
        (refl, refl, (r.value, subst (λ (z : ℕ). then me.0.view z r.value t.0) (sym (count_word s r)) t.2)),
      )

  pub stands : (then : V → ℕ → T → T → V → Type 0) (slots id : ℕ) (me : Me) (y : T) → ((p : ℕ) (x : T) (count : ℕ) → me.0.stage ≡ Holding p (x, count) → MayRaise holds id me.0.view count x y then)
      → Allows R slots id me 2 (λ n. n) (Stands (step slots 2 0 0 none) me)
  stands then slots id me y law s r wide at _ = (
    me.0,
    keeps,
    tt,
    unmoved s r 2 id me at,
    (
      refl,
      λ p x count is. let a = stands_at s r id me.0 (Holding p (x, count)) at is in
          let t = law p x count is (map view_of s.views) (client_at s r (x, count) id a.3 a.4) (view_at s id me.0 at) in
          (count_word s r ∙ ap (λ (z : T × ℕ). z.1) (sym a.4), t.1),
    ),
  )

  pub raises : (then : V → ℕ → T → T → V → Type 0) (slots id : ℕ) (me : Me) (p : ℕ) (x : T) (count : ℕ) (y : Snapshot T) (old new : ℕ) (said : Item T A) → said ≡ Coming y → old ≡ count → new ≡ count + 1
      → me.0.stage ≡ Holding p (x, count) → MayRaise holds id me.0.view count x y.value then
      → Allows R slots id me 2 (λ n. either (eqb n old) new n) (Raises then (step slots 2 old new (some said)) me)
  raises then slots id me p x count y old new said says was up is law s r wide at _ = let a = stands_at s r id me.0 (Holding p (x, count)) at is in
      let told = Raises then (step slots 2 old new (some said)) me in
      let n : ℕ = get_or s.words 2 0 in
      let here : n ≡ count = count_word s r ∙ ap (λ (z : T × ℕ). z.1) (sym a.4) in
      exchanged n old new (Goes s 2 id me told)
      (λ hit. let t = law (map view_of s.views) (client_at s r (x, count) id a.3 a.4) (view_at s id me.0 at) in let l : K = standing (Holding p (x, count + 1)) t.0 in (
        l,
        keeps,
        tt,
        record {
          drawn = r.drawn;
          served = r.served;
          count = count + 1;
          value = x;
          holder = Some id;
          words = ap (λ (ws : List ℕ). set ws 2 new) r.words ∙ ap (λ (z : ℕ). r.drawn ∷ r.served ∷ z ∷ []) up;
          line = told_now stage_of at_home 0 s.homes s.views r.drawn r.served (x, count) id (line_at s r (x, count) id a.3 a.4) me.0 l p (x, count + 1) at is refl;
          client = subst (holds (count + 1) x (Some id)) (sym (map-set view_of s.views id l)) t.2;
        },
        (λ p' x' count' y' is' first' says'. let place : p ≡ p' = cc in let same : (x, count) ≡ (x', count') = cc in let same_y : y ≡ y' = ap (coming_in y) (ap some (sym says) ∙ says') in (
          (λ i. Holding (place i) ((same i).0, (same i).1 + 1)),
          refl,
          subst (λ (z : (T × ℕ) × Snapshot T). then me.0.view z.0.1 z.0.0 z.1.value t.0) (λ i. (same i, same_y i)) t.3,
        )),
      ))
      (λ miss. absurd (miss (here ∙ sym was)))

  pub splits : (id : ℕ) (k : K) (left right : V) → MaySplit holds id k.view left right → Splits R id k (standing k.stage left) (idle right)
  splits id k left right law s r at = let l : K = standing k.stage left in let seats : List K = set s.views id l in let x : T × ℕ = (r.value, r.count) in record {
    drawn = r.drawn;
    served = r.served;
    count = r.count;
    value = r.value;
    holder = r.holder;
    words = r.words;
    line = one_more stage_of at_home 0 s.homes seats r.drawn r.served x r.holder (restated stage_of at_home 0 s.homes s.views r.drawn r.served x r.holder r.line id k l at refl) (idle right) refl;
    client = subst (holds r.count r.value r.holder)
        (sym (map-append view_of seats (idle right ∷ []) ∙ ap (λ (us : List V). us ++ right ∷ []) (map-set view_of s.views id l)))
        (law r.count r.value r.holder (map view_of s.views) r.client
        (λ e. holder_sits stage_of at_home 0 s.homes s.views x r.holder r.line.lies (e ∙ ap Some (length-map s.views view_of)))
        (view_at s id k at));
  }

  pub joins : (id : ℕ) (k : K) (other : ℕ) (m : K) (both spent : V) → m.stage ≡ Idle → MayJoin holds id k.view other m.view both spent → Joins R id k other m (standing k.stage both) (idle spent)
  joins id k other m both spent free law s r at apart there = let l : K = standing k.stage both in let seats : List K = set s.views id l in let x : T × ℕ = (r.value, r.count) in
      let one : map view_of seats ≡ set (map view_of s.views) id both = map-set view_of s.views id l in
      let line = restated stage_of at_home 0 s.homes s.views r.drawn r.served x r.holder r.line id k l at refl in record {
        drawn = r.drawn;
        served = r.served;
        count = r.count;
        value = r.value;
        holder = r.holder;
        words = r.words;
        line = restated stage_of at_home 0 s.homes seats r.drawn r.served x r.holder line other m (idle spent) there (sym free);
        client = subst (holds r.count r.value r.holder)
            (sym (map-set view_of seats other (idle spent) ∙ ap (λ (us : List V). set us other spent) one))
            (law r.count r.value r.holder (map view_of s.views) r.client
            (idle_holds_none stage_of at_home 0 s.homes seats x r.holder other m there free line.lies)
            (view_at s id k at) apart
            (subst (λ (us : List V). get_elem? us other ≡ some m.view) one (at_map view_of seats other m there)));
      }

  pub starts : (value : T) (v : V) (mark : Snapshot A) → holds 0 value None (v ∷ []) → R (opening (0 ∷ 0 ∷ 0 ∷ []) (Home value mark ∷ []) (idle v))
  starts value v mark first = record {
    drawn = 0;
    served = 0;
    count = 0;
    value = value;
    holder = None;
    words = refl;
    line = record {
      owner = λ _. 0;
      has_slot = omega arith;
      small = omega arith;
      behind = omega arith;
      placed = λ p a b. absurd (omega arith);
      lies = (mark, refl);
      agrees = λ seat k e. subst (λ (z : K). Agrees 0 0 (value, 0) None (λ _. 0) seat z.stage) (only seat k e) tt;
    };
    client = first;
  }
    where
      only : (seat : ℕ) (k : K) → get_elem? (idle v ∷ []) seat ≡ some k → idle v ≡ k
      only zero k e = some-injective (idle v) k e
      only (suc n) k e = absurd (some-ne-none k (sym e))
