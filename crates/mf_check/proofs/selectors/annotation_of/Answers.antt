use Rattle.std.proofs.Common.{refl, ap, sym, ◌∙◌}
use Rattle.std.specs.Option.{option_copied}
use Rattle.mf_tree.specs.Faults.{is_annotating}
use Rattle.mf_check.specs.Annotations.{read_declaration}
use Rattle.mf_check.specs.Seen.{Value}
use Rattle.mf_check.proofs.selectors.annotation_of.Goals as goal

pub returns-in-Some : goal.returns-in-Some
returns-in-Some c =
    let value : Value = record { ref_ptr = (0, 0); now = c.args.name.now.value } in
    λ known.
    c.annotating.ensures known
    ∙ ap (is_annotating known)
    (ap (λ found. read_declaration (option_copied found)) (sym c.in-Some.is)
    ∙ ap read_declaration c.get.ensures.value
    ∙ c.requires.each c.args.name.now value refl)

pub returns-in-None : goal.returns-in-None
returns-in-None c =
    let value : Value = record { ref_ptr = (0, 0); now = c.args.name.now.value } in
    λ known.
    ap (is_annotating known)
    (ap (λ found. read_declaration (option_copied found)) (sym c.in-None.is)
    ∙ ap read_declaration c.get.ensures.value
    ∙ c.requires.each c.args.name.now value refl)
