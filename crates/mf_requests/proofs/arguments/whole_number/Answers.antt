use Rattle.std.proofs.Common.{◌≡◌, ◌==◌, false, Some, IfOk, get_or, sym, ap, ◌∙◌, subst}
use Rattle.fast_float.specs.Text.{scan}
use Rattle.serde_json.specs.Data.{unsigned}
use Rattle.serde_json.specs.Read.{number_from, number_of}
use Rattle.mf_requests.proofs.arguments.whole_number.Goals as goal

pub returns : goal.returns
unfolding number_of
returns c =
    let s = c.as_bytes-bytes.result.now in
    let bare : (get_or s 0 0 == 45) ≡ false = sym c.if-has_sign.ensures in
    let read : number_from false (scan s) ≡ number_of s = rw bare in
    let same = ap (number_from false) c.scan.ensures.parts ∙ read ∙ ap number_of c.as_bytes-bytes.ensures.value in
    subst (λ found. IfOk c.whole_numeral.result (λ number. found ≡ Some (unsigned number))) same c.whole_numeral.ensures
