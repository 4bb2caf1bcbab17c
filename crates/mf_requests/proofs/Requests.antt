-- The request of a line, by what was read of its tokens.
use Rattle.std.proofs.Common.{◌≡◌, ℕ, List, Ok, Err, IfOk, Result, true, ap, ◌∙◌}
use Rattle.std.specs.Str.{is_utf8}
use Rattle.json.specs.Lex.{tokens}
use Rattle.json.specs.Token.{Token}
use Rattle.serde_json.specs.Data.{Members, object}
use Rattle.mf_wire.specs.Requests.{line_request, request_from, request_read}
use Rattle.mf_wire.specs.declared.reply.Reply.{Reply}
use Rattle.mf_wire.specs.declared.request.Request.{Request}
use Rattle.mf_requests.specs.Sentences.{IsSentence, Shows}
use Rattle.mf_requests.specs.declared.sentence.Sentence.{Sentence}
use Rattle.mf_requests.specs.declared.unread.Unread.{Unread}
use Rattle.mf_requests.proofs.Turns.{whole_read}

by_value : (r : Result Request Unread) (asked : Result Request Reply) (s : Sentence) (ts : List Token) (is : IsSentence ts s)
    → IfOk r (λ request. (ms : Members) → Shows s ms → request_from (object ms) ≡ Ok request) → asked ≡ request_from (object is.members)
    → IfOk r (λ request. asked ≡ Ok request)
by_value (Ok request) asked s ts is given e = e ∙ given is.members is.shows
by_value (Err unread) asked s ts is given e = given

-- a line of UTF-8 whose tokens are an object that shows this
pub by_line : (line : List ℕ) (r : Result Request Unread) (s : Sentence) → is_utf8 line ≡ true → IsSentence (tokens line) s
    → IfOk r (λ request. (ms : Members) → Shows s ms → request_from (object ms) ≡ Ok request)
    → IfOk r (λ request. line_request line ≡ Ok request)
by_line line r s good is given =
    let asked : line_request line ≡ request_from (object is.members) = rw good (ap request_read (whole_read line (object is.members) is.read)) in
    by_value r (line_request line) s (tokens line) is given asked
