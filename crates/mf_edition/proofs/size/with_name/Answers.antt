use Rattle.std.proofs.Common.{◌+◌, ◌++◌, ap, sym, ◌∙◌}
use Rattle.mf_tree.specs.Faults.{namespace_text}
use Rattle.mf_edition.specs.Sizes.{byte_count, shown}
use Rattle.mf_edition.proofs.Sized.{name_size}
use Rattle.mf_edition.proofs.size.with_name.Goals as goal

pub returns-in-Some : goal.returns-in-Some
returns-in-Some c =
    c.with_text-in-Some.ensures
    ∙ ap (λ size. shown (size + byte_count c.args.name.now.name.value)) (c.saturating_add-size.ensures ∙ ap (λ size. shown (size + 1)) c.with_text.ensures)
    ∙ name_size c.args.size c.in-Some.namespace.value c.args.name.now.name.value
    ∙ ap (λ namespace. shown (c.args.size + byte_count (namespace_text namespace ++ c.args.name.now.name.value))) (sym c.in-Some.is)
