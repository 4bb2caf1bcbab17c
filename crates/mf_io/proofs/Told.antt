-- How the bytes of a sink or of a source go on over several calls. The lemmas on whole lists are those of std.
use Rattle.std.proofs.Common.{◌≡◌, ℕ, ◌≤◌, List, [], ◌++◌, Option, Some, None, IfSome, length, length-append, refl, sym, ap, ◌∙◌, append-nil, append_assoc, arith}
use Rattle.std.specs.Io.KnownBytes.{Appends, Consumes, IsAtEnd, Keeps}
pub use Rattle.std.proofs.KnownBytes.{Appends-nil, Appends-trans, Appends-kept, Consumes-nil, Consumes-trans, Consumes-kept, Consumes-whole}
use Rattle.mf_io.specs.Known.{ConsumesAtMost, ConsumesJust, TakesFront}

-- ---- what a sink takes

-- nothing of the bytes was taken
pub TakesFront-none : (a : Option (List ℕ)) (bytes : List ℕ) → TakesFront a a bytes
TakesFront-none a bytes = record { sent = []; unsent = bytes; whole = refl; appended = Appends-nil a }

-- all of the bytes were taken
pub TakesFront-whole : (a b : Option (List ℕ)) (bytes : List ℕ) → Appends a b bytes → TakesFront a b bytes
TakesFront-whole a b bytes all = record { sent = bytes; unsent = []; whole = append-nil bytes; appended = all }

-- bytes were taken whole, and then a front of more
pub TakesFront-after : (a b c : Option (List ℕ)) (first second : List ℕ) → Appends a b first → TakesFront b c second
    → TakesFront a c (first ++ second)
TakesFront-after a b c first second all front = record {
  sent = first ++ front.sent;
  unsent = front.unsent;
  whole = append_assoc first front.sent front.unsent ∙ ap (λ t. first ++ t) front.whole;
  appended = Appends-trans a b c first front.sent all front.appended;
}

-- a front of some bytes is a front of these and more
pub TakesFront-longer : (a b : Option (List ℕ)) (bytes more : List ℕ) → TakesFront a b bytes → TakesFront a b (bytes ++ more)
TakesFront-longer a b bytes more front = record {
  sent = front.sent;
  unsent = front.unsent ++ more;
  whole = sym (append_assoc front.sent front.unsent more) ∙ ap (λ t. t ++ more) front.whole;
  appended = front.appended;
}

-- a call that keeps what was taken comes after
pub TakesFront-kept : (a b c : Option (List ℕ)) (bytes : List ℕ) → TakesFront a b bytes → Keeps b c → TakesFront a c bytes
TakesFront-kept a b c bytes front keeps = record {
  sent = front.sent;
  unsent = front.unsent;
  whole = front.whole;
  appended = Appends-kept a b c front.sent front.appended keeps;
}

-- ---- what a source gives

-- what was consumed exactly was consumed at most
pub ConsumesAtMost-just : (n : ℕ) (a b : Option (List ℕ)) → ConsumesJust n a b → ConsumesAtMost n a b
ConsumesAtMost-just n a b just = record { bytes = just.bytes; count = omega (arith, just.count); consumed = just.consumed }

-- a bound may be raised
pub ConsumesAtMost-wider : (n m : ℕ) (a b : Option (List ℕ)) → n ≤ m → ConsumesAtMost n a b → ConsumesAtMost m a b
ConsumesAtMost-wider n m a b wider most = record { bytes = most.bytes; count = omega (arith, wider, most.count); consumed = most.consumed }

-- a source that tells its bytes and is at its end gave all that it had
pub Consumes-all_told : (a b : Option (List ℕ)) (bytes : List ℕ) → Consumes a b bytes → IsAtEnd b → IfSome a (λ left. bytes ≡ left)
Consumes-all_told a b bytes consumed end = Consumes-whole a b bytes (λ left. bytes ≡ left) consumed end refl

-- a source that tells its bytes had as many as were consumed
pub ConsumesJust-told : (n : ℕ) (a b : Option (List ℕ)) → ConsumesJust n a b → IfSome a (λ left. n ≤ length left)
ConsumesJust-told n None b just = tt
ConsumesJust-told n (Some left) None just = absurd just.consumed
ConsumesJust-told n (Some left) (Some rest) just = rw (just.consumed, length-append) (omega (arith, just.count))
