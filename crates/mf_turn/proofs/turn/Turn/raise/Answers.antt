use Rattle.std.proofs.Common.{◌≡◌, ◌+◌, length}
use Rattle.mf_queue.specs.Duties.{MayRaise}
use Rattle.mf_turn.specs.Acts.{Fixes, MayFix}
use Rattle.mf_turn.proofs.Duties.{may_raise, Held}
use Rattle.mf_turn.proofs.Standings.{held}
use Rattle.mf_turn.proofs.turn.Turn.raise.Goals as goal

pub raise-requires-clause-may : goal.raise-requires-clause-may
raise-requires-clause-may g c = let account = g.T.Shared.account in let caller = g.T.Shared.caller in let nth = g.T.Shared.nth in let place = c.seat.inside.place in
    held c.args.seat.now place (λ x v. MayFix caller nth (account x) (account c.args.next.now) v)
    (λ x count. MayRaise (Held caller nth account) place.id place.me.0.view count x c.args.next.now (λ v count x y w. (count + 1 ≡ length (account y).log) × Fixes (account x) (account y) v w))
    c.seat.view_is
    (λ x count may. may_raise caller nth account place.id place.me.0.view count x c.args.next.now may) c.requires.may
