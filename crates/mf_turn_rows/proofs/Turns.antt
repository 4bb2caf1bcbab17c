-- What a seat knows that has taken a tally.
use Rattle.std.proofs.Common.{◌≡◌, ℕ, ◌+◌, ◌<◌, List, [], ◌∷◌, ◌++◌, length, false, sym, ap, ◌∙◌, arith, Some, None}
use Rattle.mf_turn.specs.declared.view.View.{View}
use Rattle.mf_turn.specs.Account.{Account, IsAlike, Publishes}
use Rattle.mf_turn.specs.Acts.{caught_up, with_raised, MayFix, Fixes}
use Rattle.mf_turn.specs.Taught.{Teaches}
use Rattle.mf_turn_rows.specs.declared.tally.Entry.{Entry}
use Rattle.mf_turn_rows.specs.Tallies.{caller_of, nth_of}

module _ (x : Account Entry) (v w : View Entry) (is : w ≡ caught_up v x) (t : Teaches caller_of nth_of x v) where
  pub quiet : w.raised ≡ None
  quiet = ap (λ (z : View Entry). z.raised) is ∙ t.quiet

  pub unclaimed : w.claim ≡ v.claim
  unclaimed = ap (λ (z : View Entry). z.claim) is

  pub may_fix : (y : Account Entry) (e : Entry) → y.log ≡ x.log ++ e ∷ [] → v.number ≡ Some e.caller → e.nth ≡ v.made + 1 → length x.log < 1000000 → MayFix caller_of nth_of x y w
  may_fix y e more number next few = record {
    entry = e;
    quiet = quiet;
    log = more;
    own = ap (λ (z : View Entry). z.number) is ∙ number;
    next = next ∙ ap (λ (z : View Entry). z.made + 1) (sym is);
    few = omega arith;
  }

-- an entry published where nothing else changed
pub published : (x y z : Account Entry) (e : Entry) → IsAlike x y → ((edition index : ℕ) → x.ready edition index ≡ false) → Publishes e y z → Publishes e x z
published x y z e a none_ready p = record {
  log = p.log ∙ ap (λ (l : List Entry). l ++ e ∷ []) a.log;
  joined = p.joined ∙ a.joined;
  present = λ n. p.present n ∙ a.present n;
  pin = λ n. p.pin n ∙ a.pin n;
  claim = λ n. p.claim n ∙ a.claim n;
  quits = let q = p.quits in let r = a.quits in omega arith;
  unready = λ index. none_ready (length z.log) index;
}

pub snoc-injective : (xs : List Entry) (a b : Entry) → xs ++ a ∷ [] ≡ xs ++ b ∷ [] → a ≡ b
snoc-injective [] a b e = cc
snoc-injective (x ∷ xs) a b e = let rest : xs ++ a ∷ [] ≡ xs ++ b ∷ [] = cc in snoc-injective xs a b rest

-- the entry whose place is fixed is the one that was put there
pub fixed_entry : (x y : Account Entry) (v w : View Entry) (e : Entry) → y.log ≡ x.log ++ e ∷ [] → Fixes x y v w → w ≡ with_raised v e
fixed_entry x y v w e more fixes = fixes.2 ∙ ap (with_raised v) (snoc-injective x.log fixes.0 e (sym fixes.1 ∙ more))
