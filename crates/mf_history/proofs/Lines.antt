-- The numbers that reply lines have, and where they stand.
use Rattle.std.proofs.Common.{◌≡◌, ℕ, List, [], ◌∷◌, ◌++◌, codes, refl}
use Rattle.std.specs.Fmt.{decimal}
use Rattle.json.specs.Print.{escape_byte}
use Rattle.mf_wire.specs.Replies.{reply_line}
use Rattle.mf_wire.specs.declared.reply.Op.{Op}
use Rattle.mf_wire.specs.declared.reply.Reply.TheVariants.{Accepted, StoreFull}
use Rattle.mf_answer.specs.Answers as answers
use Rattle.mf_answer.specs.Answers.{Answer}
use Rattle.mf_transcript.specs.Replies.{answer_reply}
use Rattle.mf_history.specs.Numbers.{Names}

pub store_line : (used size : ℕ) → reply_line (StoreFull used size) ≡ codes "{\"error\":\"store-full\",\"size\":" ++ (decimal size ++ 44 ∷ (codes "\"used\":" ++ (decimal used ++ 125 ∷ [])))
unfolding escape_byte
store_line used size = refl

pub accepted_names : (k : ℕ) (op : Op) → Names k (reply_line (Accepted k op))
unfolding escape_byte
accepted_names k op = record { rest = _; front = refl }

pub answer_names : (k : ℕ) (answer : Answer) → Names k (reply_line (answer_reply k answer))
unfolding escape_byte
answer_names k (answers.not_yet since) = record { rest = _; front = refl }
answer_names k answers.no_message = record { rest = _; front = refl }
answer_names k answers.too_long = record { rest = _; front = refl }
answer_names k (answers.formatted tag parts faults) = record { rest = _; front = refl }
