use Rattle.std.proofs.Common.{ap, ◌∙◌, drop}
use Rattle.std.proofs.lemmas.List.{take_rest}
use Rattle.mf_io.specs.Memory.{passed}
use Rattle.mf_io.proofs.Pieces.{concat-read, gives-found, gives-missing, next_byte-shown}
use Rattle.mf_io.proofs.memory_source.MemorySourceSource.read.Goals as goal

pub returns-in-Some-clause-gives : goal.returns-in-Some-clause-gives
returns-in-Some-clause-gives c =
    let so = next_byte-shown _ _ _ _ _ _ c.args.self.now c.deref.ensures.value (ap (λ s. s.pieces) c.self.view_is) c.next_byte-piece.ensures in
    let bytes = c.deref-in-Some.result.now in
    let byte = c.next_byte-piece.result.1 in
    gives-found c.args.self.now c.self.inside.pieces.items _ _ _ c.in-Some.bytes.now _ _ _ _ _ so c.deref-2.ensures.value c.in-Some.ensures.lookup.3.0 c.in-Some.ensures.lookup.1
    (take_rest bytes byte ∙ ap (drop byte) c.deref-in-Some.ensures.value)
    c.copy_front-count.ensures.count c.copy_front-count.ensures.copied
    (c.in_ok-begin.ensures.ok ∙ ap (λ s. passed s.calls) c.self.view_is)

pub returns-in-None-clause-gives : goal.returns-in-None-clause-gives
returns-in-None-clause-gives c =
    let so = next_byte-shown _ _ _ _ _ _ c.args.self.now c.deref.ensures.value (ap (λ s. s.pieces) c.self.view_is) c.next_byte-piece.ensures in
    gives-missing c.args.self.now c.self.inside.pieces.items _ _ _ _ _ so c.deref-2.ensures.value c.in-None.ensures.lookup.3
    (c.in_ok-begin.ensures.ok ∙ ap (λ s. passed s.calls) c.self.view_is)

pub returns-in-Some-clause-bytes : goal.returns-in-Some-clause-bytes
returns-in-Some-clause-bytes c = concat-read _ _ _ _ _ (returns-in-Some-clause-gives c)

pub returns-in-None-clause-bytes : goal.returns-in-None-clause-bytes
returns-in-None-clause-bytes c = concat-read _ _ _ _ _ (returns-in-None-clause-gives c)
