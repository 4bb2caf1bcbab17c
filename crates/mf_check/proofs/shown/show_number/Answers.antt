use Rattle.std.proofs.Common.{◌+◌, ◌∙◌}
use Rattle.std.specs.String.{string_bytes}
use Rattle.mf_check.proofs.Texts.{number_chars}
use Rattle.mf_check.proofs.shown.show_number.Goals as goal

pub returns : goal.returns
returns c = c.from.ensures ∙ number_chars (c.args.at + 1) (string_bytes c.in_ok-text.text) c.requires c.in_ok-text.ensures.ok
