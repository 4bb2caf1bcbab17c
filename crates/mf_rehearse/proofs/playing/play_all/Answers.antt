use denote.RattleType.{RattleType}
use denote.Param.{param}
use denote.Param.Send.{sendable, IsSync}
use Rattle.std.proofs.Crossing.{crosses}
use Rattle.mf_hub.proofs.Crossing.{hub_sync, pass_send}
use Rattle.mf_rehearse.specs.contracts.playing.play_all.{G-row, R-row}
use Rattle.mf_rehearse.proofs.Crossing.{played_send}
use Rattle.mf_rehearse.proofs.playing.play_all.Goals as goal
use Rattle.mf_rehearse.proofs.playing.play_all.Lts.{arg-0-4}

closure_sync : (R G : RattleType) (a b c d e κs : _) → IsSync (R-row R G) → IsSync (G-row R G) → IsSync (param 4 (arg-0-4 R G a b c d e κs))
closure_sync R G a b c d e κs r g = search (sendable, crosses, hub_sync) depth 30

pub map_vec-requires-sync-F : goal.map_vec-requires-sync-F
map_vec-requires-sync-F g c κs within =
    closure_sync g.row.R g.row.G g.R.laws g.G.laws g.R.Threads-dict g.R.Wait-dict g.G.Gate-dict κs c.type_bounds.sync-R c.type_bounds.sync-G

pub map_vec-requires-send-J : goal.map_vec-requires-send-J
map_vec-requires-send-J g c κs within = search (sendable, pass_send) depth 30

pub map_vec-requires-send-X : goal.map_vec-requires-send-X
map_vec-requires-send-X g c κs within = search (sendable, crosses, played_send) depth 30
