use Rattle.std.proofs.Common.{◌∙◌, ◌++◌, ap}
use Rattle.mf_rehearse.proofs.Pieces.{entry_pieces}
use Rattle.mf_rehearse.proofs.printing.print_entry.Goals as goal

pub returns : goal.returns
returns c =
    entry_pieces c.args.edition c.args.entry.now c.args.output.now.items c.extend_from_slice.new.self.items c.extend_from_slice-2.new.self.items
    c.extend_from_slice-3.new.self.items c.extend_from_slice-4.new.self.items c.extend_from_slice-5.new.self.items c.extend_from_slice-6.new.self.items
    c.extend_from_slice-7.new.self.items c.extend_from_slice-8.new.self.items c.extend_from_slice-9.new.self.items c.change_name.result.now
    c.change_name.ensures c.in_ok-extend_from_slice.ensures.items
    (c.in_ok-extend_from_slice-2.ensures.items ∙ ap (λ l. c.extend_from_slice.new.self.items ++ l) (c.as_bytes.ensures.value ∙ c.format.ensures.text))
    c.in_ok-extend_from_slice-3.ensures.items
    (c.in_ok-extend_from_slice-4.ensures.items ∙ ap (λ l. c.extend_from_slice-3.new.self.items ++ l) c.as_bytes-2.ensures.value)
    c.in_ok-extend_from_slice-5.ensures.items
    (c.in_ok-extend_from_slice-6.ensures.items ∙ ap (λ l. c.extend_from_slice-5.new.self.items ++ l) (c.as_bytes-3.ensures.value ∙ c.format-2.ensures.text))
    c.in_ok-extend_from_slice-7.ensures.items
    (c.in_ok-extend_from_slice-8.ensures.items ∙ ap (λ l. c.extend_from_slice-7.new.self.items ++ l) (c.as_bytes-4.ensures.value ∙ c.format-3.ensures.text))
    c.in_ok-extend_from_slice-9.ensures.items
