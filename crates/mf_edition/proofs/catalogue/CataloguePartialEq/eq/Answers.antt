use Rattle.std.proofs.Common.{◌≡◌, true, ◌&&◌, ap, sym, subst, ◌∙◌, map, nat_eq}
use Rattle.std.specs.Cmp.Lexicographic.{pointwise, bytes_decides}
use Rattle.mf_edition.specs.Catalogues.{catalogue_eq, message_eq, Catalogue}
use Rattle.mf_edition.specs.Items.{item_of, item_values, message_of}
use Rattle.mf_edition.proofs.Same.{same_messages}
use Rattle.mf_edition.proofs.catalogue.CataloguePartialEq.eq.Goals as goal

pub returns-then-eq : goal.returns-then-eq
returns-then-eq c =
    let a = c.self.inside in
    let b = c.other.inside in
    let tags : pointwise nat_eq a.tag b.tag ≡ true = sym c.eq.ensures ∙ c.if-eq.true in
    let tag : a.tag ≡ b.tag = (bytes_decides a.tag b.tag).0 tags in
    let others : map (item_of a.tag) (map message_of (item_values b.items.items)) ≡ item_values b.items.items =
    subst (λ tag. map (item_of tag) (map message_of (item_values b.items.items)) ≡ item_values b.items.items) (sym tag) c.other.invariant.tagged in
    c.eq-then-eq.ensures
    ∙ same_messages a.tag a.items.items b.items.items c.self.invariant.tagged others
    ∙ ap (λ t. t && pointwise message_eq (map message_of (item_values a.items.items)) (map message_of (item_values b.items.items))) (sym tags)
    ∙ ap (λ (x : Catalogue). catalogue_eq x (record { tag = b.tag; messages = map message_of (item_values b.items.items) })) c.self.view_is
    ∙ ap (λ (x : Catalogue). catalogue_eq c.args.self.now x) c.other.view_is
