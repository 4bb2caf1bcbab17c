use Rattle.std.proofs.Common.{OnOk, codes, subst}
use Rattle.serde_json.specs.Data.{object, no_members}
use Rattle.mf_wire.specs.Members.{text_member}
use Rattle.mf_wire.specs.Writing.{Writes}
use Rattle.mf_wire.proofs.writing.write_bad_request.Goals as goal

pub returns : goal.returns
returns c =
    subst (λ field. OnOk c.write_row.result
    (Writes (object (text_member (codes "error") (codes "bad-request") (text_member (codes "field") field no_members))) c.args.out.now c.write_row.new.out))
    c.as_str.ensures c.write_row.ensures
