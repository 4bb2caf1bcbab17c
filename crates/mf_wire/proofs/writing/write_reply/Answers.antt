use Rattle.std.proofs.Common.{OnOk, subst}
use Rattle.mf_wire.specs.Replies.{formatted_data}
use Rattle.mf_wire.specs.Writing.{Writes}
use Rattle.mf_wire.proofs.writing.write_reply.Goals as goal

pub returns-in-BadJson : goal.returns-in-BadJson
returns-in-BadJson c = rw c.in-BadJson.is c.write_row.ensures

pub returns-in-Formatted : goal.returns-in-Formatted
returns-in-Formatted c =
    rw c.in-Formatted.is (
    subst (λ tag. OnOk c.write_formatted.result (Writes (formatted_data c.in-Formatted.edition tag c.in-Formatted.parts c.in-Formatted.faults) c.args.out.now c.write_formatted.new.out))
    c.as_text.ensures.text c.write_formatted.ensures)
