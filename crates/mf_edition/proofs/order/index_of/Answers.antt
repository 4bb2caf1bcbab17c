use Rattle.std.proofs.Common.{chars, sym}
use Rattle.mf_edition.specs.Items.{item_values}
use Rattle.mf_edition.proofs.Placed.{position_found, position_gap}
use Rattle.mf_edition.proofs.order.index_of.Goals as goal

pub returns-in-Ok : goal.returns-in-Ok
returns-in-Ok c =
    sym (position_found (item_values c.args.items.now) c.args.order.now (chars c.args.tag.now) (chars c.args.id.now) c.requires c.in-Ok.at c.in-Ok.ensures)

pub returns-in-Err : goal.returns-in-Err
returns-in-Err c =
    sym (position_gap (item_values c.args.items.now) c.args.order.now (chars c.args.tag.now) (chars c.args.id.now) c.requires c.in-Err.field-0 c.in-Err.ensures)
