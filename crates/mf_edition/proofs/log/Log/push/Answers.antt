use Rattle.std.proofs.Common.{[], ◌∷◌, ◌++◌, ◌≤◌, ap, sym, ◌∙◌, subst}
use Rattle.mf_edition.specs.Sizes.{messages_by, used_by, IsWithin}
use Rattle.mf_edition.proofs.Sized.{within_push}
use Rattle.mf_edition.proofs.log.Log.push.Goals as goal

pub invariant_of-self-2 : goal.invariant_of-self-2
invariant_of-self-2 c =
    subst (λ log. IsWithin log c.in_ok-used.used)
    (sym (c.push_reserved.ensures.items ∙ ap (λ log. log ++ c.args.entry ∷ []) (c.in_ok-reserve.ensures.items ∙ c.self.view_is)))
    (within_push c.args.self.now c.args.entry c.in_ok-used.used c.in_ok-used.ensures.accepted c.in_ok-used.ensures.used
    (subst (λ log. messages_by log ≤ used_by log) c.self.view_is c.self.invariant.counted) c.in_ok-used.ensures.counted)
