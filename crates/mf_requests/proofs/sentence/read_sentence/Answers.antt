use Rattle.std.proofs.Common.{◌≡◌, ◌∷◌, [], Some, arith, ap, ◌∙◌}
use Rattle.json.specs.Token as token
use Rattle.json.specs.Json.{value}
use Rattle.serde_json.specs.Data.{object}
use Rattle.serde_json.specs.Read.{converted, of_json}
use Rattle.mf_requests.proofs.Turns.{reads_object}
use Rattle.mf_requests.proofs.sentence.read_sentence.Goals as goal

pub returns-in-None : goal.returns-in-None
returns-in-None c =
    let has = c.in_ok-sentence.ensures in
    let inside = c.next.new.self in
    let rest = c.read_members.new.reader in
    let first : c.args.reader.now ≡ token.begin_object ∷ inside = grind arith in
    let over : rest ≡ [] = grind arith in
    record {
      members = has.members;
      read = ap (λ ts. converted of_json (value 127 ts)) first ∙ reads_object has.members inside rest 127 (omega arith) has.read
          ∙ ap (λ r. Some (object has.members, r)) over;
      shows = has.shows;
    }
