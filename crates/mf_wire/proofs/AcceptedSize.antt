-- How much room the tokens of an accepted publication's line take.
use Rattle.std.proofs.Common.{◌≡◌, ℕ, ◌<◌, ◌≤◌, ◌^◌, length, refl, codes, arith}
use Rattle.std.specs.Prelude.{Result, Ok, Err, OnErr}
use Rattle.std.specs.Fmt.{decimal}
use Rattle.std.proofs.lemmas.Fmt.{length-decimal-le}
use Rattle.json.specs.Filled.{UsesSpare}
use Rattle.json.specs.Print.{escape_byte, token_text}
use Rattle.json.specs.Token.{key, string}
use Rattle.mf_wire.specs.Replies.{op_name}
use Rattle.mf_wire.specs.declared.reply.Op.{Op}
use Rattle.mf_wire.specs.declared.reply.Op.TheVariants.{Publish, Locale, Handler}

pub edition_size : length (token_text (key (codes "edition"))) ≡ 10
unfolding escape_byte
edition_size = refl

pub ok_size : length (token_text (key (codes "ok"))) ≡ 5
unfolding escape_byte
ok_size = refl

pub op_size : (op : Op) → length (token_text (string (op_name op))) ≤ 9
unfolding escape_byte
op_size Publish = omega arith
op_size Locale = omega arith
op_size Handler = omega arith

pub number_size : (n : ℕ) → n < 2 ^ 64 → length (decimal n) ≤ 20
number_size n fits = length-decimal-le 20 n (omega arith) (omega arith) fits

pub on_err : {T E : Type 0} (r : Result T E) {P : Type 0} → P → OnErr r P
on_err (Ok x) p = tt
on_err (Err e) p = p

pub on_no_room : {T E : Type 0} (r : Result T E) (old new n : ℕ) {P : Type 0} → UsesSpare r old new n → (old < n → P) → OnErr r P
on_no_room (Ok x) old new n uses then = tt
on_no_room (Err e) old new n uses then = then uses.0
