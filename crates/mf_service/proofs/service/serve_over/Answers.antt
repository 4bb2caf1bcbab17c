use denote.RattleType.{RattleType}
use denote.Param.{param}
use denote.Param.Send.{sendable, IsSync}
use Rattle.std.proofs.Crossing.{crosses}
use Rattle.mf_hub.proofs.Crossing.{hub_sync}
use Rattle.mf_service.specs.contracts.service.serve_over.{G-row}
use Rattle.mf_service.proofs.Crossing.{visit_send}
use Rattle.mf_service.proofs.service.serve_over.Goals as goal
use Rattle.mf_service.proofs.service.serve_over.Lts.{arg-1-1}

service_sync : (L G R F T : RattleType) (a b c d e f g h i j k l m κs : _) → IsSync (G-row L G R F T)
    → IsSync (param 1 (arg-1-1 L G R F T a b c d e f g h i j k l m κs))
service_sync L G R F T a b c d e f g h i j k l m κs sync = search (sendable, crosses, hub_sync) depth 30

pub serve-requires-send-J-Token : goal.serve-requires-send-J-Token
serve-requires-send-J-Token g c κs within = search (sendable, visit_send) depth 30

pub serve-requires-sync-J : goal.serve-requires-sync-J
serve-requires-sync-J g c κs within =
    service_sync g.row.L g.row.G g.row.R g.row.L-From g.row.L-To g.L.laws g.G.laws g.R.laws g.L.From.laws g.L.To.laws g.L.Listener-dict
    g.L.From.Source-dict g.L.To.Sink-dict g.G.Gate-dict g.R.Threads-dict g.R.Wait-dict g.L.From.Destruct-dict g.L.To.Destruct-dict κs
    c.type_bounds.sync-G
