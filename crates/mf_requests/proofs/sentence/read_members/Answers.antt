use Rattle.std.proofs.Common.{◌≡◌, ◌<◌, ◌-◌, Some, None, length, arith, refl, ◌∙◌}
use Rattle.json.specs.Json.{read_key}
use Rattle.json.proofs.Grammar.{read_key-shorter}
use Rattle.serde_json.specs.Data.{no_members, put}
use Rattle.mf_requests.specs.Sentences.{HasMember}
use Rattle.mf_requests.proofs.Turns.{no_more, one_more}
use Rattle.mf_requests.proofs.sentence.read_members.Goals as goal

pub members-init : goal.members-init
members-init c =
    (no_members, length c.args.reader.now, omega arith, refl, record { op = refl; locale = refl; id = refl; arguments = refl; since = refl })

pub members-preserved : goal.members-preserved
members-preserved c =
    let l = c.members in
    let name = c.in-Some.name.now in
    let key : read_key l.reader ≡ Some (Some name, c.next_key.new.self) = grind arith in
    let one : HasMember c.next_key.new.self name l.sentence c.read_member.new.sentence c.read_member.new.reader = grind arith in
    let key_shorter : length c.next_key.new.self < length l.reader = read_key-shorter _ _ _ key in (
      put name one.found l.invariant.0,
      l.invariant.1 - 1,
      omega (arith, l.invariant.2, key_shorter, one.shorter),
      l.invariant.3
          ∙ one_more 126 l.invariant.1 l.invariant.0 name l.reader c.next_key.new.self c.read_member.new.reader one.found
          (omega (arith, l.invariant.2, key_shorter)) key (one.read 126 (omega arith)),
      one.shows l.invariant.0 l.invariant.4,
    )

pub returns : goal.returns
returns c =
    let l = c.members in
    let key : read_key l.reader ≡ Some (None, c.next_key.new.self) = grind arith in
    record {
      members = l.invariant.0;
      read = l.invariant.3 ∙ no_more 126 l.invariant.1 l.invariant.0 l.reader c.next_key.new.self l.invariant.2 key;
      shows = l.invariant.4;
    }
