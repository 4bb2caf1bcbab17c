use Rattle.std.proofs.Common.{◌≡◌, ◌∙◌, ℕ, Bool, true, false, cond, None, ap, sym}
use Rattle.std.proofs.lemmas.Result.{IfOk-weaker}
use Rattle.std.specs.Option.{option_map}
use Rattle.serde_json.proofs.Views.{members_len-members_view}
use Rattle.serde_json.specs.Data.{Members}
use Rattle.serde_json.specs.Events.{members_len}
use Rattle.serde_json.specs.View.{members_view}
use Rattle.mf_wire.specs.Fields as fields
use Rattle.mf_wire.proofs.fields.catalogue.Goals as goal

by_size : (members : Members) (count : ℕ) (test answer : Bool) → members_len members ≡ count → answer ≡ fields.is_catalogue_size count → answer ≡ test
    → fields.catalogue_from members ≡ cond test (fields.messages_from members) None
by_size members count test answer len is tested =
    ap (λ n. cond (fields.is_catalogue_size n) (fields.messages_from members) None) len
    ∙ ap (λ (b : Bool). cond b (fields.messages_from members) None) (sym is ∙ tested)

pub returns-then-is_catalogue_size : goal.returns-then-is_catalogue_size
returns-then-is_catalogue_size c =
    let entries = c.args.members.now.entries in
    let same = by_size (members_view entries) c.len.result true c.is_catalogue_size.result
    (members_len-members_view entries ∙ sym c.len.ensures.len) c.is_catalogue_size.ensures c.if-is_catalogue_size.true in
    IfOk-weaker c.messages.result _ _ (λ catalogue is. is ∙ ap (option_map (fields.tagged c.args.tag)) (sym same)) c.messages.ensures

pub returns-else-is_catalogue_size : goal.returns-else-is_catalogue_size
returns-else-is_catalogue_size c =
    let entries = c.args.members.now.entries in
    ap (option_map (fields.tagged c.args.tag))
    (sym (by_size (members_view entries) c.len.result false c.is_catalogue_size.result
    (members_len-members_view entries ∙ sym c.len.ensures.len) c.is_catalogue_size.ensures c.if-is_catalogue_size.false))
