use Rattle.std.proofs.Common.{codes, subst}
use Rattle.serde_json.specs.Data.{string}
use Rattle.mf_wire.specs.Replies.{faults_data}
use Rattle.mf_wire.specs.Writing.{WritesMember}
use Rattle.mf_wire.proofs.Objects.{keyed, next, whole}
use Rattle.mf_wire.proofs.writing.write_formatted.Goals as goal

pub returns : goal.returns
returns c =
    let errors = subst (λ faults. WritesMember (codes "errors") (faults_data faults) c.write_number.new.out c.write_errors.new.out)
    c.as_slice.ensures c.in_ok-write_errors.ensures in
    let locale = subst (λ text. WritesMember (codes "locale") (string text) c.write_errors.new.out c.write_text.new.out)
    c.as_str.ensures.bytes c.in_ok-write_text.ensures in
    whole c.in_ok-begin_object.ensures c.end_object.ensures (λ closed.
    next c.in_ok-write_number.ensures (next errors (next locale
    (next c.in_ok-write_text-2.ensures (next (keyed c.in_ok-key.ensures c.in_ok-write_parts.ensures) (next c.in_ok-write_joined.ensures closed))))))
