use Rattle.std.proofs.Common.{string_bytes}
use Rattle.std.proofs.lemmas.Str.{IsUtf8-string_bytes}
use Rattle.mf_text.proofs.Pushed.{not_pushed, pushed_text}
use Rattle.mf_text.proofs.text.Text.push_str.Goals as goal

pub returns-clause-ok : goal.returns-clause-ok
returns-clause-ok c =
    pushed_text c.push_str.result c.args.self.now (string_bytes c.self.inside.text) (string_bytes c.push_str.new.self) c.args.text.now
    c.self.view_is (IsUtf8-string_bytes c.self.inside.text) c.push_str.ensures.bytes

pub returns-clause-err : goal.returns-clause-err
returns-clause-err c =
    not_pushed c.push_str.result c.args.self.now (string_bytes c.self.inside.text) (string_bytes c.push_str.new.self) c.args.text.now c.self.view_is c.push_str.ensures.bytes
