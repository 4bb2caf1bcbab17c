use Rattle.std.proofs.Common.{string_bytes}
use Rattle.mf_parts.proofs.Joining.{put_in_braces}
use Rattle.mf_parts.proofs.text.push_in_braces.Goals as goal

pub returns : goal.returns
returns c =
    put_in_braces c.args.source.now (string_bytes c.args.text.now) (string_bytes c.push.new.self) c.as_str.result.now
    (string_bytes c.push_str.new.self) (string_bytes c.push-2.new.self)
    c.in_ok-push.ensures.bytes c.as_str.ensures.bytes c.in_ok-push_str.ensures.bytes c.in_ok-push-2.ensures.bytes
