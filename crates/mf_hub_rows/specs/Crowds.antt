-- Passes of one hub.
use Rattle.std.specs.Prelude.{◌≡◌, length, Some}
use Rattle.atomic_table.specs.Seated.{TableId}
use Rattle.mf_edition.specs.Edition.{newest_edition, EditionState}
use Rattle.mf_hub.specs.Passes.{Known, PassState}
use Rattle.mf_hub_rows.specs.declared.asking.Asker.{Asker}
use Rattle.mf_hub_rows.specs.declared.crowd.Walked.{Walked}

abbrev pub IsOf : TableId → PassState → Type 0
IsOf hub pass = pass.hub ≡ hub

abbrev pub CameFrom : TableId → Walked → Type 0
CameFrom hub walked = walked.pass.hub ≡ hub

abbrev pub CameBack : TableId → Asker → Type 0
CameBack hub asker = asker.pass.hub ≡ hub

-- a caller has pinned this edition, the newest that it has seen
abbrev pub HasPinned : EditionState → Known → Type 0
HasPinned edition p = (p.pin ≡ Some (length p.log)) × (edition ≡ newest_edition p.log)
