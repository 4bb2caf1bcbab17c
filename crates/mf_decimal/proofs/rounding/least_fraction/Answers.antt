use Rattle.std.proofs.Common.{◌-◌, sym, subst, arith}
use Rattle.mf_decimal.specs.declared.shown.Digits.{Digits}
use Rattle.mf_decimal.specs.Amount.{shifted}
use Rattle.mf_decimal.specs.Rounding.{IsInRange, IsLeast}
use Rattle.mf_decimal.proofs.Dropped.{least_some, least_none, room_fraction, room_digits}
use Rattle.mf_decimal.proofs.rounding.least_fraction.Goals as goal

pub returns-in-Fraction-clause-room : goal.returns-in-Fraction-clause-room
returns-in-Fraction-clause-room c =
    let range = subst IsInRange c.in-Fraction.is c.requires.in_range in
    room_fraction c.args.coefficient c.args.scale c.in-Fraction.min (omega arith) c.requires.near

pub returns-in-Significant-clause-least : goal.returns-in-Significant-clause-least
returns-in-Significant-clause-least c =
    let s = c.in-Significant in
    let P : Digits → Type 0 = λ d. IsLeast d (shifted c.args.coefficient c.args.scale) (s.min - 1) in
    subst P (sym s.is) (least_none c.args.coefficient c.args.scale s.min s.max (s.min - 1) c.if-coefficient-eq0.true (omega arith))

pub returns-in-Significant-2-clause-least : goal.returns-in-Significant-2-clause-least
returns-in-Significant-2-clause-least c =
    let s = c.in-Significant-2 in
    let P : Digits → Type 0 = λ d. IsLeast d (shifted c.args.coefficient c.args.scale) c.saturating_sub.result in
    subst P (sym s.is) (least_some c.args.coefficient c.args.scale c.digit_count.result s.min s.max c.saturating_sub.result c.digit_count.ensures c.if-coefficient-eq0.false c.saturating_sub.ensures)

pub returns-in-Significant-2-clause-room : goal.returns-in-Significant-2-clause-room
returns-in-Significant-2-clause-room c =
    let range = subst IsInRange c.in-Significant-2.is c.requires.in_range in
    room_digits c.args.coefficient c.args.scale c.digit_count.result c.in-Significant-2.min c.saturating_sub.result c.digit_count.ensures (omega arith) c.requires.near c.saturating_sub.ensures
