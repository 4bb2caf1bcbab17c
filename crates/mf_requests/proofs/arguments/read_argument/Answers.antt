use Rattle.std.proofs.Common.{◌≡◌, ◌∷◌, Some, length, arith, sym, ap, ◌∙◌}
use Rattle.json.specs.Token as token
use Rattle.json.specs.Json.{value}
use Rattle.serde_json.specs.Data.{number, string, unsigned}
use Rattle.serde_json.specs.Read.{converted, of_json}
use Rattle.mf_text.specs.declared.arguments.Argued.TheVariants.{Text}
use Rattle.mf_requests.proofs.Turns.{reads_number, reads_text}
use Rattle.mf_requests.proofs.arguments.read_argument.Goals as goal

-- src/arguments.rt:29:1
pub returns-in_ok-of-in-Some-String : goal.returns-in_ok-of-in-Some-String
returns-in_ok-of-in-Some-String c =
    let rest = c.next.new.self in
    let text = c.in-Some-String.text.now in
    let first : c.args.reader.now ≡ token.string text ∷ rest = grind arith in
    record {
      found = string text;
      read = λ depth. ap (λ ts. converted of_json (value depth ts)) first ∙ reads_text text rest depth;
      is = ap (λ t. Some (Text t)) (sym c.in_ok-of-in-Some-String.ensures);
      shorter = omega (arith, ap length first);
    }

-- src/arguments.rt:29:1
pub returns-in_ok-whole_number-in-Some-Number : goal.returns-in_ok-whole_number-in-Some-Number
returns-in_ok-whole_number-in-Some-Number c =
    let rest = c.next.new.self in
    let text = c.in-Some-Number.text.now in
    let first : c.args.reader.now ≡ token.number text ∷ rest = grind arith in
    let whole = c.in_ok-whole_number-in-Some-Number in
    record {
      found = number (unsigned whole.field-0);
      read = λ depth. ap (λ ts. converted of_json (value depth ts)) first ∙ reads_number text _ rest whole.ensures depth;
      is = sym c.argued_number.ensures;
      shorter = omega (arith, ap length first);
    }
