-- What an answer tells of the answers that it is made of.
use Rattle.std.proofs.Common.{◌≡◌, ◌⊎◌, inl, inr, Bool, true, false, cond, Option, Some, None, refl}
use Rattle.std.proofs.lemmas.Option.{none-some}
use Rattle.std.specs.Option.{option_and_then, option_map}

pub same_some : {A : Type 0} (x y : A) → Some x ≡ Some y → x ≡ y
same_some x y is = cc

pub and_then_some : {A B : Type 0} (g : A → Option B) (o : Option A) (y : B) → option_and_then g o ≡ Some y → (x : A) × (o ≡ Some x) × (g x ≡ Some y)
and_then_some g None y is = absurd (none-some y is)
and_then_some g (Some x) y is = (x, refl, is)

pub map_some : {A B : Type 0} (g : A → B) (o : Option A) (y : B) → option_map g o ≡ Some y → (x : A) × (o ≡ Some x) × (g x ≡ y)
map_some g None y is = absurd (none-some y is)
map_some g (Some x) y is = (x, refl, same_some (g x) y is)

pub cond_first : {A : Type 0} (b : Bool) (x y : A) (rest : Option A) → cond b (Some x) rest ≡ Some y → ((b ≡ true) × (x ≡ y)) ⊎ (rest ≡ Some y)
cond_first true x y rest is = inl (refl, same_some x y is)
cond_first false x y rest is = inr is

pub cond_second : {A : Type 0} (b : Bool) (o : Option A) (y : A) → cond b None o ≡ Some y → (b ≡ false) × (o ≡ Some y)
cond_second true o y is = absurd (none-some y is)
cond_second false o y is = (refl, is)

pub cond_given : {A : Type 0} (b : Bool) (x y : A) → cond b (Some x) None ≡ Some y → (b ≡ true) × (x ≡ y)
cond_given true x y is = (refl, same_some x y is)
cond_given false x y is = absurd (none-some y is)
