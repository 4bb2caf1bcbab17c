-- The copy shares the messages and the records.
use Rattle.std.proofs.Common.{◌≡◌, ◌<◌, ◌^◌, length, ap, sym, ◌∙◌, subst}
use Rattle.std.proofs.lemmas.List.{length-map}
use Rattle.std.specs.Arc.{arc_value}
use Rattle.std.specs.List.{each_same}
use Rattle.mf_edition.specs.Items.{item_values}
use Rattle.mf_edition.specs.Order.{names_of, IsOrder}
use Rattle.mf_edition.proofs.Growth.{values_shared}
use Rattle.mf_edition.proofs.edition.EditionClone.clone.Goals as goal
use Rattle.mf_edition.proofs.edition.EditionClone.clone.Goals.{In_ok-root}

same_items : (c : In_ok-root) → item_values c.in_ok-items.items.items ≡ item_values c.self.inside.items.items
same_items c = values_shared _ _ c.in_ok-items.ensures.cases.0

pub invariant_of-result : goal.invariant_of-result
invariant_of-result c =
    let at = (goal.at.invariant_of-result c).In_ok-root in
    let order = each_same c.self.inside.order.items c.in_ok-order.order.items c.in_ok-order.ensures.cases.0 in
    let count = sym (length-map c.self.inside.items.items arc_value) ∙ ap length (sym (same_items at)) ∙ length-map c.in_ok-items.items.items arc_value in (
      record {
        few = subst (λ n. n < 2 ^ 32) count c.self.invariant.0.few;
        ordered =
            subst (λ os. IsOrder (names_of (item_values c.in_ok-items.items.items)) os) (sym order)
            (subst (λ its. IsOrder (names_of its) c.self.inside.order.items) (sym (same_items at)) c.self.invariant.0.ordered);
      },
      c.in_ok-root.ensures.cases ∙ c.self.invariant.1,
    )

pub returns : goal.returns
returns c =
    let at = (goal.at.returns c).In_ok-root in
    record { cases = (λ i. record { number = c.self.inside.number; items = same_items at i; records = c.in_ok-records.ensures.cases i; handlers = c.in_ok-handlers.ensures.cases i }) ∙ c.self.view_is }
