use Rattle.std.proofs.Common.{◌∙◌, ◌++◌, [], ◌∷◌, length, ap, subst, sym}
use Rattle.std.specs.Arc.{arc_value}
use Rattle.mf_edition.proofs.EditionLaws.{newest_number}
use Rattle.mf_edition.specs.Edition.{newest_edition}
use Rattle.mf_flight.specs.Flights.{Retires}
use Rattle.mf_transcript.specs.Steps.{next_entry}
use Rattle.mf_hub.specs.Desks.{published}
use Rattle.mf_hub.proofs.Compiled.{fresh_are, retired_fresh}
use Rattle.mf_hub.proofs.Desks.{fresh_desk}
use Rattle.mf_hub.proofs.alone.Alone.publish.Goals as goal

pub invariant_of-self-2 : goal.invariant_of-self-2
invariant_of-self-2 c =
    let log = c.self.inside.publications in
    let number = c.len-newest.ensures.len ∙ ap length c.log.ensures ∙ sym (newest_number log) in
    fresh_are arc_value (newest_edition c.publish.new.self) c.retire.new.self
    (retired_fresh (newest_edition log) c.self.inside.flights c.retire.new.self c.self.invariant
    (subst (λ e. Retires c.self.inside.flights c.retire.new.self e) number c.retire.ensures))

pub returns-clause-ok : goal.returns-clause-ok
returns-clause-ok c =
    let log = c.self.inside.publications in
    let newest = c.len-newest.ensures.len ∙ ap length c.log.ensures in
    fresh_desk c.publish.new.self c.retire.new.self
    (retired_fresh (newest_edition log) c.self.inside.flights c.retire.new.self c.self.invariant
    (subst (λ e. Retires c.self.inside.flights c.retire.new.self e) (newest ∙ sym (newest_number log)) c.retire.ensures))
    ∙ (λ i. record {
      log = (c.in_ok-publish.ensures.ok ∙ ap (λ n. log ++ next_entry 0 n c.args.change ∷ []) newest) i;
      ready = [];
      quits = 0;
    })
    ∙ ap (λ desk. published desk c.args.change) c.self.view_is
