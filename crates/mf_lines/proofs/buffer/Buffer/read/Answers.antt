-- The bytes that are read lie behind those that wait.
use Rattle.std.proofs.Common.{◌≡◌, ◌∙◌, ◌+◌, ◌-◌, ◌≤◌, ◌++◌, length, take, drop, ap, arith}
use Rattle.mf_lines.specs.Waiting.{Waiting}
use Rattle.mf_lines.proofs.Behind.{room_behind, written_behind}
use Rattle.mf_lines.proofs.buffer.Buffer.read.Goals as goal

pub returns-clause-ok : goal.returns-clause-ok
returns-clause-ok g c =
    let memory = c.deref_mut.result.now in
    let new = c.read_into.new.room in
    let start = c.self.inside.start in
    let end = c.self.inside.end in
    let room = c.min-room.result in
    let count = c.in_ok-count.count in
    let same_length = ap length c.deref_mut.ensures.value in
    let same_room = ap (λ (w : Waiting). w.room) c.self.view_is in
    let free : 4096 ≤ length memory - end = omega (arith, same_length, same_room, c.make_room.ensures.room) in
    let asked : length new ≡ room = room_behind memory new end room c.read_into.auto.room (omega (arith, c.min-room.ensures, c.len.ensures, c.deref_mut.ensures.len)) in
    let fits : end + count ≤ length memory = omega (arith, free, asked, c.in_ok-count.ensures.bound.0, c.min-room.ensures, c.len.ensures, c.deref_mut.ensures.len) in
    record {
      part = take count new;
      consumed = c.in_ok-count.ensures.bytes.0;
      joined = written_behind memory new _ _ c.self.inside.bytes.len start end count c.self.invariant.0 (omega (arith, fits)) c.in_ok-count.ensures.bound.0
          (omega (arith, fits, c.deref_mut.ensures.len))
          ∙ ap (λ bytes. drop start (take end bytes) ++ take count new) c.deref_mut.ensures.value
          ∙ ap (λ (w : Waiting). w.bytes ++ take count new) c.self.view_is
          ∙ ap (λ bytes. bytes ++ take count new) c.make_room.ensures.bytes;
      number = c.in_ok-count.ensures.bound.1;
      bound = omega (arith, asked, c.in_ok-count.ensures.bound.0, c.min-room.ensures);
      end = λ none. c.in_ok-count.ensures.bytes.1 none (omega (arith, asked, free, c.min-room.ensures, c.requires.some));
    }
