use Rattle.std.proofs.Common.{string_bytes}
use Rattle.std.proofs.lemmas.Str.{IsUtf8-string_bytes}
use Rattle.std.specs.Prelude.{encode_utf8}
use Rattle.mf_text.proofs.Pushed.{not_pushed, pushed_character}
use Rattle.mf_text.proofs.text.Text.push.Goals as goal

pub returns-clause-ok : goal.returns-clause-ok
returns-clause-ok c =
    pushed_character c.push.result c.args.self.now (string_bytes c.self.inside.text) (string_bytes c.push.new.self) c.args.c
    c.self.view_is (IsUtf8-string_bytes c.self.inside.text) c.ranges.c.0 c.push.ensures.bytes

pub returns-clause-err : goal.returns-clause-err
returns-clause-err c =
    not_pushed c.push.result c.args.self.now (string_bytes c.self.inside.text) (string_bytes c.push.new.self) (encode_utf8 c.args.c) c.self.view_is c.push.ensures.bytes
