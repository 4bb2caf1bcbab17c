use Rattle.mf_edition.proofs.EditionLaws.{newest_kept}
use Rattle.mf_edition.proofs.publications.Publications.publish.Goals as goal

pub invariant_of-self : goal.invariant_of-self
invariant_of-self c =
    newest_kept c.publish.result c.self.inside.log c.publish.new.self c.self.inside.newest c.publish.new.newest c.args.entry c.self.invariant
    c.publish.ensures.log c.publish.ensures.newest c.publish.ensures.err
