use Rattle.std.proofs.Common.{◌≡◌, true, ap, ◌∙◌, subst}
use Rattle.std.proofs.lemmas.Str.{is_utf8-from_IsUtf8}
use Rattle.std.specs.Str.{is_utf8}
use Rattle.json.specs.Lex.{tokens}
use Rattle.mf_requests.specs.Sentences.{IsSentence}
use Rattle.mf_requests.proofs.Requests.{by_line}
use Rattle.mf_requests.proofs.reader.plain_request.Goals as goal

pub returns : goal.returns
returns c =
    let s = c.in_ok-read_sentence.field-0 in
    let line = c.args.line.now in
    let text = c.in-Ok.ensures.cases in
    let good : is_utf8 line ≡ true = is_utf8-from_IsUtf8 line text.1 in
    let same : c.in_ok-reader.reader ≡ tokens line = c.in_ok-reader.ensures.ok ∙ ap tokens text.0 in
    let is : IsSentence (tokens line) s = subst (λ ts. IsSentence ts s) same c.in_ok-read_sentence.ensures in
    by_line line c.request_of.result s good is c.request_of.ensures
