use Rattle.std.specs.Prelude.{chars}
use Rattle.mf_tree.proofs.Nodes.{message as spelled_node}
use Rattle.mf_source_rows.proofs.sources.message_of.Goals as goal

pub print-requires : goal.print-requires
print-requires c = record { node = spelled_node c.in-Ok.message (chars c.args.source.now) c.in-Ok.ensures.spelled }
