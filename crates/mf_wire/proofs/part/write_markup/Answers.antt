use Rattle.std.proofs.Common.{◌≡◌, ◌∙◌, ℕ, List, OnOk, codes, subst}
use Rattle.serde_json.specs.Data.{Data, object, member, no_members}
use Rattle.mf_text.specs.declared.pair.Pair.{Pair}
use Rattle.mf_wire.specs.Members.{text_member}
use Rattle.mf_wire.specs.Parts.{pair_members}
use Rattle.mf_wire.specs.Writing.{Writes}
use Rattle.mf_wire.proofs.part.write_markup.Goals as goal

-- the object of markup that has an id
abbrev with_id : List ℕ → List ℕ → List ℕ → List Pair → Data
with_id form id name options = object
    (text_member (codes "form") form
    (text_member (codes "id") id
    (text_member (codes "kind") (codes "markup")
    (text_member (codes "name") name
    (member (codes "options") (object (pair_members options)) no_members)))))

alike : {form forms id ids name names : List ℕ} {options ordered : List Pair} → form ≡ forms → id ≡ ids → name ≡ names → options ≡ ordered
    → with_id form id name options ≡ with_id forms ids names ordered
alike form id name options = λ i. with_id (form i) (id i) (name i) (options i)

pub returns : goal.returns
returns c =
    rw c.in-Some.is (
    subst (λ d. OnOk c.write_row-in-Some.result (Writes d c.args.out.now c.write_row-in-Some.new.out))
    (alike c.form_name.ensures c.as_str-in-Some.ensures.bytes c.as_str.ensures.bytes (c.as_slice.ensures ∙ c.in_ok-ordered.ensures))
    c.write_row-in-Some.ensures)
