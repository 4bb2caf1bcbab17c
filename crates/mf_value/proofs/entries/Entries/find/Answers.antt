use Rattle.std.proofs.Common.{ap, ◌∙◌}
use Rattle.mf_value.specs.Entries.{place_for}
use Rattle.mf_value.specs.Index.{text_at}
use Rattle.mf_value.proofs.Index.{text_found}
use Rattle.mf_value.proofs.entries.Entries.find.Goals as goal

pub returns : goal.returns
returns c =
    let form = c.args.form.now in
    let entries = c.args.self.now in
    c.text_at.ensures
    ∙ ap (λ es. text_at es c.copied.result) (c.deref.ensures.value ∙ c.self.view_is)
    ∙ ap (text_at entries) (c.copied.ensures ∙ c.get.ensures.value ∙ c.self.invariant.places form ∙ ap (place_for form) c.self.view_is) ∙ text_found form entries
