use Rattle.std.proofs.Common.{◌≡◌, ◌+◌, map, take}
use Rattle.mf_edition.specs.Items.{item_values, message_of}
use Rattle.mf_edition.specs.Sizes.{byte_count, pairs_size, shown}
use Rattle.mf_edition.proofs.change.catalogue_size.Given as goal

abbrev pub invariant-loop-item : goal.invariant-loop-item
invariant-loop-item l = l.size ≡ shown (64 + byte_count l.catalogue.tag + pairs_size (map message_of (item_values (take l.item-index l.item-items))))
