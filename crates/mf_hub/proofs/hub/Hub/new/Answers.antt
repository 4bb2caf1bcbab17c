use Rattle.mf_hub.proofs.Accounts.{first_is_new}
use Rattle.mf_hub.proofs.hub.Hub.new.Goals as goal

pub new-requires-2 : goal.new-requires-2
new-requires-2 c = first_is_new c.in_ok-store.store c.in_ok-store.ensures
