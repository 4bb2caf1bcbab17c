use Rattle.std.proofs.Common.{◌∙◌, ap, encode_utf8_all}
use Rattle.std.proofs.lemmas.Str.{encodes-chars, IsUtf8-string_bytes}
use Rattle.std.specs.Prelude.{string_bytes}
use Rattle.mf_wire.specs.Replies.{reply_data}
use Rattle.mf_wire.proofs.Printed.{printed}
use Rattle.mf_wire.proofs.reply.reply_line.Goals as goal

pub returns : goal.returns
returns c =
    let line = c.in-Ok.line in
    ap encode_utf8_all c.from.ensures
    ∙ encodes-chars (string_bytes line) (IsUtf8-string_bytes line)
    ∙ ap (λ bytes. bytes.items) c.in-Ok.ensures.ok
    ∙ c.into_inner.ensures.items
    ∙ printed (reply_data c.args.reply.now) c.new-out.result c.write_reply.new.out
    (c.new-out.ensures.before ∙ c.in_ok-buffer.ensures.items) c.new-out.ensures.tokens c.in_ok-write_reply.ensures
