use Rattle.std.proofs.Common.{◌≡◌, ◌-◌, Some, codes, length, arith, refl, sym, ap, ◌∙◌, subst}
use Rattle.json.specs.Json.{value}
use Rattle.serde_json.specs.Data.{number, object, put, string, unsigned}
use Rattle.serde_json.specs.Read.{converted, of_json}
use Rattle.mf_requests.specs.Sentences.{Shows}
use Rattle.mf_requests.proofs.Showing.{shows_arguments, shows_id, shows_locale, shows_op, shows_since}
use Rattle.mf_requests.proofs.Turns.{reads_number, reads_object, reads_text}
use Rattle.mf_requests.proofs.sentence.read_member.Goals as goal

pub returns-in_ok-read_text-in-op : goal.returns-in_ok-read_text-in-op
returns-in_ok-read_text-in-op c =
    let text = c.in_ok-read_text-in-op.field-0 in
    let before = c.args.sentence.now in
    let first = c.in_ok-read_text-in-op.ensures in
    let named : c.args.name.now ≡ codes "op" = grind arith in
    record {
      found = string text.now;
      read = λ depth nests. ap (λ ts. converted of_json (value depth ts)) first ∙ reads_text text.now _ depth;
      shows = λ ms shown. subst (λ n. Shows (record before { op = Some text }) (put n (string text.now) ms)) (sym named) (shows_op before ms shown text);
      shorter = omega (arith, ap length first);
    }

pub returns-in_ok-read_text-in-locale : goal.returns-in_ok-read_text-in-locale
returns-in_ok-read_text-in-locale c =
    let text = c.in_ok-read_text-in-locale.field-0 in
    let before = c.args.sentence.now in
    let first = c.in_ok-read_text-in-locale.ensures in
    let named : c.args.name.now ≡ codes "locale" = grind arith in
    record {
      found = string text.now;
      read = λ depth nests. ap (λ ts. converted of_json (value depth ts)) first ∙ reads_text text.now _ depth;
      shows = λ ms shown. subst (λ n. Shows (record before { locale = Some text }) (put n (string text.now) ms)) (sym named) (shows_locale before ms shown text);
      shorter = omega (arith, ap length first);
    }

pub returns-in_ok-read_text-in-id : goal.returns-in_ok-read_text-in-id
returns-in_ok-read_text-in-id c =
    let text = c.in_ok-read_text-in-id.field-0 in
    let before = c.args.sentence.now in
    let first = c.in_ok-read_text-in-id.ensures in
    let named : c.args.name.now ≡ codes "id" = grind arith in
    record {
      found = string text.now;
      read = λ depth nests. ap (λ ts. converted of_json (value depth ts)) first ∙ reads_text text.now _ depth;
      shows = λ ms shown. subst (λ n. Shows (record before { id = Some text }) (put n (string text.now) ms)) (sym named) (shows_id before ms shown text);
      shorter = omega (arith, ap length first);
    }

pub returns-in_ok-read_object-in-args : goal.returns-in_ok-read_object-in-args
returns-in_ok-read_object-in-args c =
    let arguments = c.in_ok-read_object-in-args.field-0 in
    let before = c.args.sentence.now in
    let inside = c.in_ok-read_object-in-args.ensures.0 in
    let first = c.in_ok-read_object-in-args.ensures.1 in
    let has = c.in_ok-read_object-in-args.ensures.2 in
    let named : c.args.name.now ≡ codes "args" = grind arith in
    record {
      found = object has.members;
      read = λ depth nests. ap (λ ts. converted of_json (value depth ts)) first ∙ reads_object has.members inside _ depth nests (has.read (depth - 1));
      shows = λ ms shown. subst (λ n. Shows (record before { arguments = Some arguments }) (put n (object has.members) ms)) (sym named)
          (shows_arguments before ms shown arguments has.members (record { members = has.members; is_object = refl; read = has.are }));
      shorter = omega (arith, ap length first, has.shorter);
    }

pub returns-in_ok-read_whole_number-in-since : goal.returns-in_ok-read_whole_number-in-since
returns-in_ok-read_whole_number-in-since c =
    let whole = c.in_ok-read_whole_number-in-since.field-0 in
    let before = c.args.sentence.now in
    let written = c.in_ok-read_whole_number-in-since.ensures.0 in
    let first = c.in_ok-read_whole_number-in-since.ensures.1 in
    let named : c.args.name.now ≡ codes "since" = grind arith in
    record {
      found = number (unsigned whole);
      read = λ depth nests. ap (λ ts. converted of_json (value depth ts)) first ∙ reads_number written _ _ c.in_ok-read_whole_number-in-since.ensures.2 depth;
      shows = λ ms shown. subst (λ n. Shows (record before { since = Some whole }) (put n (number (unsigned whole)) ms)) (sym named) (shows_since before ms shown whole);
      shorter = omega (arith, ap length first);
    }
