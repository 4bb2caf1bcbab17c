use denote.RattleType.{RattleType}
use denote.Param.{param}
use denote.Param.Send.{sendable, IsSync}
use Rattle.std.proofs.Crossing.{crosses}
use Rattle.mf_hub.proofs.Crossing.{hub_sync, pass_send}
use Rattle.mf_hub_rows.specs.contracts.asking.ask_at_gate.{R-row}
use Rattle.mf_hub_rows.proofs.Crossing.{asker_send, hold_sync}
use Rattle.mf_hub_rows.proofs.asking.ask_at_gate.Goals as goal
use Rattle.mf_hub_rows.proofs.asking.ask_at_gate.Lts.{arg-0-4}

closure_sync : (R : RattleType) (l : _) (t : _) (w : _) (κs : _) → IsSync (R-row R) → IsSync (param 4 (arg-0-4 R l t w κs))
closure_sync R l t w κs s = search (sendable, crosses, hub_sync, hold_sync) depth 30

pub map_vec-requires-sync-F : goal.map_vec-requires-sync-F
map_vec-requires-sync-F g c κs within = closure_sync g.row.R g.R.laws g.R.Threads-dict g.R.Wait-dict κs c.type_bounds.sync-R

pub map_vec-requires-send-J : goal.map_vec-requires-send-J
map_vec-requires-send-J g c κs within = search (sendable, pass_send) depth 30

pub map_vec-requires-send-X : goal.map_vec-requires-send-X
map_vec-requires-send-X g c κs within = search (sendable, asker_send) depth 30
