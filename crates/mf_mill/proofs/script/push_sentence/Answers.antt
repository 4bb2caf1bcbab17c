use Rattle.std.proofs.Common.{◌∷◌, [], ◌++◌, decimal, ap, ◌∙◌}
use Rattle.std.proofs.lemmas.Result.{on_ok_weaker}
use Rattle.mf_mill.specs.Scripts.{before_number, behind_number}
use Rattle.mf_mill.proofs.Joined.{three}
use Rattle.mf_mill.proofs.script.push_sentence.Goals as goal

pub returns : goal.returns
returns c =
    on_ok_weaker c.push_line.result
    (λ pushed. three c.args.input.now.items before_number (decimal c.args.number) behind_number (10 ∷ [])
    c.extend_from_slice.new.self.items c.push_number.new.bytes.items c.push_line.new.input.items
    (c.in_ok-extend_from_slice.ensures.items ∙ ap (λ bytes. c.args.input.now.items ++ bytes) c.as_bytes.ensures.value)
    c.in_ok-push_number.ensures pushed)
    c.push_line.ensures
