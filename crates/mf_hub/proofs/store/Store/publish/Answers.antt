use Rattle.std.proofs.Common.{◌≡◌, ◌≤◌, length, true, refl, ap, sym, ◌∙◌, subst}
use Rattle.std.specs.Arc.{arc_value}
use Rattle.mf_edition.specs.Sizes.{most_entries}
use Rattle.mf_edition.specs.Edition.{newest_edition, next_edition}
use Rattle.mf_transcript.specs.Steps.{next_entry}
use Rattle.mf_turn.specs.Account.{entries_by, Publishes}
use Rattle.mf_hub.specs.Stores.{account_of, caller_of, world_of, Stored}
use Rattle.mf_hub.proofs.Accounts.{publishes_next, stored}
use Rattle.mf_hub.proofs.Storing.{stored_published, stored_same}
use Rattle.mf_hub.proofs.store.Store.publish.Goals as goal

pub invariant_of-self : goal.invariant_of-self
invariant_of-self c = let s = c.self.inside in let e = c.in_err-publish.ensures in
    stored_same s.board c.publish.new.self s.newest s.given c.self.invariant e.kept e.plans e.err

pub invariant_of-self-2 : goal.invariant_of-self-2
invariant_of-self-2 c = let s = c.self.inside in let e = c.in_ok-publish.ensures in
    stored_published c.editions_stay.ensures c.editions_follow.ensures s.board c.publish.new.self s.newest c.replace.new.dest s.given c.args.caller
    c.args.change _ c.self.invariant e.kept e.plans e.step
    (ap arc_value c.replace.ensures.after ∙ c.in_ok-edition.ensures.next
    ∙ ap (λ (z : Stored). next_edition (newest_edition z.board.log) c.args.change) (sym c.self.view_is))

pub returns-clause-publishes : goal.returns-clause-publishes
returns-clause-publishes c = let s = c.self.inside in let n = c.args.caller in let e = c.in_ok-publish.ensures in
    let joined = subst (λ (z : Stored). ((world_of z).caller n).joined ≡ true) (sym c.self.view_is) c.requires.joined in
    subst
    (λ (z : Stored). Publishes (next_entry n (entries_by caller_of n (world_of z).log) c.args.change) (account_of z)
    (account_of (stored c.publish.new.self s.given)))
    c.self.view_is
    (publishes_next (stored s.board s.given) (stored c.publish.new.self s.given) n c.args.change _ c.self.invariant.kept.valid joined e.step refl)

pub returns-clause-few : goal.returns-clause-few
returns-clause-few c = subst (λ (z : Stored). length (world_of z).log ≤ most_entries) c.self.view_is c.self.invariant.kept.valid.few
