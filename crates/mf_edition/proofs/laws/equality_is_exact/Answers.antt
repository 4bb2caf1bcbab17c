use Rattle.mf_edition.proofs.Exact.{exact_item, exact_catalogue, exact_change, exact_entry}
use Rattle.mf_edition.proofs.SameHandlers.{exact_handler}
use Rattle.mf_edition.proofs.laws.equality_is_exact.Goals as goal

pub returns-clause-items : goal.returns-clause-items
returns-clause-items c = exact_item

pub returns-clause-catalogues : goal.returns-clause-catalogues
returns-clause-catalogues c = exact_catalogue

pub returns-clause-handlers : goal.returns-clause-handlers
returns-clause-handlers c = exact_handler

pub returns-clause-changes : goal.returns-clause-changes
returns-clause-changes c = exact_change

pub returns-clause-entries : goal.returns-clause-entries
returns-clause-entries c = exact_entry
