-- The items of the publication are its messages, each of its tag.
use Rattle.std.proofs.Common.{◌≡◌, ◌<◌, ◌^◌, length, map, ap, sym, ◌∙◌, subst}
use Rattle.std.proofs.lemmas.List.{length-map}
use Rattle.std.specs.Arc.{arc_value}
use Rattle.mf_edition.specs.Catalogues.{Catalogue}
use Rattle.mf_edition.specs.Edition.{put_all}
use Rattle.mf_edition.specs.Items.{item_of, item_values}
use Rattle.mf_edition.proofs.Growth.{values_shared}
use Rattle.mf_edition.proofs.edition.Edition.put_messages.Goals as goal
use Rattle.mf_edition.proofs.edition.Edition.put_messages.Goals.{In_ok-reserve}

-- what comes of putting them in
made : (c : In_ok-reserve) → put_all (item_values c.reserve.new.self.items) (item_values c.in_ok-new.new.items)
    ≡ put_all c.args.self.now.items (map (item_of c.args.catalogue.now.tag) c.args.catalogue.now.messages)
made c =
    let before = item_values c.self.inside.items.items in
    ap (λ items. put_all (item_values items) (item_values c.in_ok-new.new.items)) c.in_ok-reserve.ensures.items
    ∙ ap (put_all before) (values_shared _ _ c.in_ok-new.ensures.cases.0 ∙ sym c.items.ensures.catalogue.tagged)
    ∙ ap (λ (catalogue : Catalogue). put_all before (map (item_of c.args.catalogue.now.tag) catalogue.messages)) c.items.ensures.items
    ∙ ap (λ edition. put_all edition.items (map (item_of c.args.catalogue.now.tag) c.args.catalogue.now.messages)) c.self.view_is

pub put_all-requires-clause-few : goal.put_all-requires-clause-few
put_all-requires-clause-few c =
    subst (λ items. length items < 2 ^ 32) (sym (made (goal.at.put_all-requires-clause-few c).In_ok-reserve)) c.requires

pub invariant_of-self-2 : goal.invariant_of-self-2
invariant_of-self-2 c =
    let items = c.put_all.ensures.items ∙ made (goal.at.invariant_of-self-2 c).In_ok-reserve in (
      record {
        few = subst (λ n. n < 2 ^ 32) (length-map c.put_all.new.items.items arc_value) (subst (λ its. length its < 2 ^ 32) (sym items) c.requires);
        ordered = c.put_all.ensures.order;
      },
      c.self.invariant.1,
    )

pub returns-clause-items : goal.returns-clause-items
returns-clause-items c = c.put_all.ensures.items ∙ made (goal.at.returns-clause-items c).In_ok-reserve
