use Rattle.std.proofs.Common.{rules, ◌≤◌, subst}
use Rattle.mf_edition.specs.Sizes.{messages_by, used_by}
use Rattle.mf_edition.specs.Edition.{message_count}
use Rattle.mf_edition.proofs.Sized.{room_from}
use Rattle.mf_edition.proofs.log.Log.used_with.Goals as goal

pub returns-clause-room : goal.returns-clause-room
returns-clause-room c =
    room_from c.args.self.now c.args.change.now (subst (λ log. messages_by log ≤ used_by log) c.self.view_is c.self.invariant.counted)
    (subst (λ size. message_count c.args.change.now ≤ size) c.size-size.ensures.size c.size-size.ensures.counted) (search rules)
