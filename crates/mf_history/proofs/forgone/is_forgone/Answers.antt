use Rattle.std.proofs.Common.{◌∙◌, sym}
use Rattle.std.proofs.lemmas.Bool.{true≢false}
use Rattle.mf_transcript.specs.Asked.{request_of}
use Rattle.mf_transcript.specs.Lines.{asks_format}
use Rattle.std.specs.Prelude.{encode_utf8_all}
use Rattle.mf_history.proofs.Sums.{not_memory}
use Rattle.mf_history.proofs.forgone.is_forgone.Goals as goal

pub returns-then-not-is_memory : goal.returns-then-not-is_memory
returns-then-not-is_memory c =
    not_memory (encode_utf8_all c.args.exchange.now.reply)
    (λ memory. true≢false (sym (c.is_memory.ensures.1 (c.as_str.ensures.bytes ∙ memory)) ∙ c.if-not-is_memory.true))
    (asks_format (request_of c.args.exchange.now.request))
