use Rattle.std.proofs.Common.{◌++◌, codes, decimal, ap, ◌∙◌}
use Rattle.mf_mill.proofs.Joined.{nine}
use Rattle.mf_mill.proofs.summary.summary.Goals as goal

pub returns : goal.returns
returns c =
    nine (codes "{\"editions\":") (decimal c.args.tally.now.editions) (codes ",\"formats\":") (decimal c.args.count)
    (codes ",\"ok\":\"mill\",\"starts\":") (decimal c.args.tally.now.starts) (codes ",\"text_bytes\":") (decimal c.args.tally.now.text_bytes) (codes "}")
    c.push_number.new.bytes.items c.extend_from_slice.new.self.items c.push_number-2.new.bytes.items c.extend_from_slice-2.new.self.items
    c.push_number-3.new.bytes.items c.extend_from_slice-3.new.self.items c.push_number-4.new.bytes.items c.push.new.self.items
    (c.in_ok-push_number.ensures ∙ ap (λ l. l ++ decimal c.args.tally.now.editions) c.in_ok-line.ensures.items)
    c.in_ok-extend_from_slice.ensures.items c.in_ok-push_number-2.ensures c.in_ok-extend_from_slice-2.ensures.items
    c.in_ok-push_number-3.ensures c.in_ok-extend_from_slice-3.ensures.items c.in_ok-push_number-4.ensures c.in_ok-push.ensures.items
