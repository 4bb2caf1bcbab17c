use Rattle.std.proofs.Common.{◌∙◌, ap, encode_utf8_all}
use Rattle.std.proofs.lemmas.Str.{encodes-chars, IsUtf8-string_bytes}
use Rattle.std.specs.Prelude.{string_bytes}
use Rattle.mf_wire.specs.Replies.{reply_data, reply_line}
use Rattle.mf_wire.specs.declared.reply.Reply.TheVariants as reply
use Rattle.mf_wire.proofs.Printed.{printed}
use Rattle.mf_wire.proofs.accepted.Accepted.line.Goals as goal

pub returns : goal.returns
returns c =
    let line = c.in-Ok-from_utf8.line in
    ap encode_utf8_all c.from.ensures
    ∙ encodes-chars (string_bytes line) (IsUtf8-string_bytes line)
    ∙ ap (λ bytes. bytes.items) c.in-Ok-from_utf8.ensures.ok
    ∙ c.into_inner.ensures.items
    ∙ printed (reply_data (reply.Accepted c.args.edition c.self.inside.op)) c.new-out.result c.write_accepted.new.out
    (c.new-out.ensures.before ∙ c.self.invariant.0) c.new-out.ensures.tokens c.in-Ok.ensures.written
    ∙ ap (λ op. reply_line (reply.Accepted c.args.edition op)) c.self.view_is
