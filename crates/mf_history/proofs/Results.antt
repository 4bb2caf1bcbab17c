-- What holds of a result.
use Rattle.std.proofs.Common.{Result, Ok, Err}
use Rattle.std.specs.Result.{IfOk}

pub IfOk-both : {T E : Type 0} (r : Result T E) (P Q : T → Type 0) → IfOk r P → IfOk r Q → IfOk r (λ t. P t × Q t)
IfOk-both (Ok t) P Q one other = (one, other)
IfOk-both (Err e) P Q one other = tt
