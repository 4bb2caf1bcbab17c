use Rattle.std.proofs.Common.{◌≡◌, ◌<◌, ◌-◌, [], Some, None, chars, length, arith, refl, sym, ap, ◌∙◌}
use Rattle.json.specs.Json.{read_key}
use Rattle.json.proofs.Grammar.{read_key-shorter}
use Rattle.unicode_normalization.specs.Forms.{nfc}
use Rattle.serde_json.specs.Data.{no_members, put}
use Rattle.mf_text.specs.Arguments.{with_new_argument}
use Rattle.mf_requests.proofs.Putting.{argument_put}
use Rattle.mf_requests.proofs.Turns.{no_more, one_more}
use Rattle.mf_requests.proofs.arguments.read_arguments.Goals as goal

pub members-init : goal.members-init
members-init c =
    (no_members, length c.args.reader.now, omega arith, omega arith, λ depth. refl, ap (λ arguments. Some arguments) (sym c.new-arguments.ensures))

pub members-preserved : goal.members-preserved
members-preserved c =
    let l = c.members in
    let name = c.in-Some.name.now in
    let key : read_key l.reader ≡ Some (Some name, c.next_key.new.self) = grind arith in
    let argued = c.in_ok-value.ensures in
    let rest = c.read_argument.new.reader in
    let key_shorter : length c.next_key.new.self < length l.reader = read_key-shorter _ _ _ key in
    let new : with_new_argument l.arguments (nfc (chars name)) c.in_ok-value.value ≡ Some c.insert.new.self = grind arith in (
      put name argued.found l.invariant.0,
      l.invariant.1 - 1,
      omega (arith, l.invariant.2, key_shorter, argued.shorter),
      omega (arith, l.invariant.3, key_shorter, argued.shorter),
      λ depth. l.invariant.4 depth
          ∙ one_more depth l.invariant.1 l.invariant.0 name l.reader c.next_key.new.self rest argued.found
          (omega (arith, l.invariant.2, key_shorter)) key (argued.read depth),
      argument_put name argued.found c.in_ok-value.value l.invariant.0 [] l.arguments c.insert.new.self argued.is l.invariant.5 new,
    )

pub returns : goal.returns
returns c =
    let l = c.members in
    let key : read_key l.reader ≡ Some (None, c.next_key.new.self) = grind arith in
    record {
      members = l.invariant.0;
      read = λ depth. l.invariant.4 depth ∙ no_more depth l.invariant.1 l.invariant.0 l.reader c.next_key.new.self l.invariant.2 key;
      are = l.invariant.5;
      shorter = omega (arith, l.invariant.3, read_key-shorter _ _ _ key);
    }
