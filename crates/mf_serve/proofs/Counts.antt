-- Sums of tallies.
use Rattle.std.proofs.Common.{◌≡◌, ◌+◌, ◌<◌, refl, arith}
use Rattle.mf_io.specs.declared.statuses.Status.{Status}
use Rattle.mf_io.specs.declared.statuses.Status.TheVariants.{Ended, Usage, ReadFault, WriteFault, LineTooLong, OutOfMemory, InputFull, ListenFault}
use Rattle.mf_serve.specs.declared.tallies.Tally.{Tally}
use Rattle.mf_serve.specs.Tallies.{HasRoom, HasRoomFor, added, counted, no_sessions, sessions}
use native.Mathlib.Numerals.{unary_clauses}

pub has_room : (t : Tally) → sessions t < 1000000 → HasRoom t
has_room t few = record { ended = omega arith; faulted = omega arith; refused = omega arith }

pub fresh_room : (t : Tally) → t ≡ no_sessions → HasRoom t
fresh_room t is = rw is (record { ended = omega arith; faulted = omega arith; refused = omega arith })

pub room_for_one : (s : Status) (m t : Tally) → m ≡ counted s no_sessions → sessions t < 1000000 → HasRoomFor m t
room_for_one Ended m t is few = rw is (record { ended = omega arith; faulted = omega arith; refused = omega arith })
room_for_one Usage m t is few = rw is (record { ended = omega arith; faulted = omega arith; refused = omega arith })
room_for_one ReadFault m t is few = rw is (record { ended = omega arith; faulted = omega arith; refused = omega arith })
room_for_one WriteFault m t is few = rw is (record { ended = omega arith; faulted = omega arith; refused = omega arith })
room_for_one LineTooLong m t is few = rw is (record { ended = omega arith; faulted = omega arith; refused = omega arith })
room_for_one OutOfMemory m t is few = rw is (record { ended = omega arith; faulted = omega arith; refused = omega arith })
room_for_one InputFull m t is few = rw is (record { ended = omega arith; faulted = omega arith; refused = omega arith })
room_for_one ListenFault m t is few = rw is (record { ended = omega arith; faulted = omega arith; refused = omega arith })

pub one_more : (s : Status) (t : Tally) → added (counted s no_sessions) t ≡ counted s t
one_more Ended t = simp unary_clauses refl
one_more Usage t = simp unary_clauses refl
one_more ReadFault t = simp unary_clauses refl
one_more WriteFault t = simp unary_clauses refl
one_more LineTooLong t = simp unary_clauses refl
one_more OutOfMemory t = simp unary_clauses refl
one_more InputFull t = simp unary_clauses refl
one_more ListenFault t = simp unary_clauses refl

pub sessions_counted : (s : Status) (t : Tally) → sessions (counted s t) ≡ sessions t + 1
sessions_counted Ended t = omega arith
sessions_counted Usage t = omega arith
sessions_counted ReadFault t = omega arith
sessions_counted WriteFault t = omega arith
sessions_counted LineTooLong t = omega arith
sessions_counted OutOfMemory t = omega arith
sessions_counted InputFull t = omega arith
sessions_counted ListenFault t = omega arith
