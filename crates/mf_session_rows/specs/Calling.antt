-- Callers of one hub.
use Rattle.std.specs.Prelude.{◌≡◌, None}
use Rattle.atomic_table.specs.Seated.{TableId}
use Rattle.mf_session_rows.specs.declared.callers.Caller.{Caller}

-- its pass is of the hub, and has no pin
abbrev pub IsAt : TableId → Caller → Type 0
IsAt hub caller = (caller.pass.hub ≡ hub) × (caller.pass.view.pin ≡ None)
