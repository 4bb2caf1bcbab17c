-- A test that holds where either of two tests does.
use Rattle.std.proofs.Common.{◌≡◌, Bool, true, false, ◌||◌}

pub first_holds : (first second found : Bool) → found ≡ first → found ≡ true → found ≡ (first || second)
first_holds true second found is holds = holds
first_holds false second found is holds = cc

pub second_decides : (first second left found : Bool) → left ≡ first → left ≡ false → found ≡ second → found ≡ (first || second)
second_decides true second left found is fails decides = cc
second_decides false second left found is fails decides = decides
