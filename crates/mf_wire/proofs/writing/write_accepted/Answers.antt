use Rattle.std.proofs.Common.{length, ap, arith}
use Rattle.json.specs.Print.{token_text}
use Rattle.json.specs.Token.{string}
use Rattle.mf_wire.proofs.AcceptedSize.{edition_size, number_size, ok_size, on_err, on_no_room, op_size}
use Rattle.mf_wire.proofs.writing.write_accepted.Goals as goal

pub returns-in_err-key-clause-room : goal.returns-in_err-key-clause-room
returns-in_err-key-clause-room c =
    on_err c.from_residual-in_err-key.result (omega (arith, edition_size, c.in_ok-begin_object.ensures.room.1, c.in_err-key.ensures.room.1.0))

pub returns-in_err-u64-clause-room : goal.returns-in_err-u64-clause-room
returns-in_err-u64-clause-room c =
    on_err c.from_residual-in_err-u64.result (omega (
      arith,
      edition_size,
      number_size c.args.edition c.ranges.edition.fits,
      c.in_ok-begin_object.ensures.room.1,
      c.in_ok-key.ensures.room.1,
      c.in_err-u64.ensures.room.1.0,
    ))

pub returns-in_err-key-2-clause-room : goal.returns-in_err-key-2-clause-room
returns-in_err-key-2-clause-room c =
    on_err c.from_residual-in_err-key-2.result (omega (
      arith,
      edition_size,
      ok_size,
      number_size c.args.edition c.ranges.edition.fits,
      c.in_ok-begin_object.ensures.room.1,
      c.in_ok-key.ensures.room.1,
      c.in_ok-u64.ensures.room.1,
      c.in_err-key-2.ensures.room.1.0,
    ))

pub returns-in_err-string-clause-room : goal.returns-in_err-string-clause-room
returns-in_err-string-clause-room c =
    let word = ap (λ text. length (token_text (string text))) c.as_str.ensures in
    on_err c.from_residual-in_err-string.result (omega (
      arith,
      edition_size,
      ok_size,
      word,
      op_size c.args.op,
      number_size c.args.edition c.ranges.edition.fits,
      c.in_ok-begin_object.ensures.room.1,
      c.in_ok-key.ensures.room.1,
      c.in_ok-u64.ensures.room.1,
      c.in_ok-key-2.ensures.room.1,
      c.in_err-string.ensures.room.1.0,
    ))

pub returns-clause-room : goal.returns-clause-room
returns-clause-room c =
    let word = ap (λ text. length (token_text (string text))) c.as_str.ensures in
    on_no_room c.end_object.result c.string.new.self.spare c.end_object.new.self.spare 2 c.end_object.ensures.room.1 (λ none. omega (
      arith,
      edition_size,
      ok_size,
      word,
      op_size c.args.op,
      number_size c.args.edition c.ranges.edition.fits,
      c.in_ok-begin_object.ensures.room.1,
      c.in_ok-key.ensures.room.1,
      c.in_ok-u64.ensures.room.1,
      c.in_ok-key-2.ensures.room.1,
      c.in_ok-string.ensures.room.1,
      none,
    ))
