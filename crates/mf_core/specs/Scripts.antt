-- Events with questions at them, and the calls that these are.
use Rattle.std.specs.Prelude.{◌≡◌, ◌≤◌, ◌==◌, ◌++◌, ℕ, false, List, [], ◌∷◌, Result, Ok, length, map, take, if◌then◌else◌}
use Rattle.mf_edition.specs.declared.change.Change.{Change}
use Rattle.mf_edition.specs.declared.change.Entry.{Entry}
use Rattle.mf_legal.specs.Calls.{publication, look, Call, Exchange, exchange_of, Service}
use Rattle.mf_legal.specs.Transcripts.{Transcript}
use Rattle.mf_legal.specs.Histories.{Legal}
use Rattle.mf_core.specs.declared.event.Event.{Event}
use Rattle.mf_core.specs.declared.event.Event.TheVariants.{Join, Publish, Pin, Ask, Done, Quit, Unpin, Leave}
use Rattle.mf_core.specs.declared.event.Told.{Told}
use Rattle.mf_core.specs.declared.event.Told.TheVariants.{Published, Pinned}
use Rattle.mf_core.specs.declared.error.CoreError.{CoreError}
use Rattle.mf_core.specs.Worlds.{World, new_world}
use Rattle.mf_core.specs.Runs.{after, answer}

-- the core's own requests and answers stand in place of lines and reply lines
pub data Request (Question : Type 0) : Type 0 where
  publishes : Change → Request Question
  asks : Question → Request Question

pub data Answer (Reply : Type 0) : Type 0 where
  accepts : ℕ → Answer Reply
  says : Reply → Answer Reply

module _ {Question Reply : Type 0} (reply : List Entry → ℕ → Question → Reply) where
  abbrev pub AcceptsRequest : Request Question → Change → ℕ → Answer Reply → Type 0
  AcceptsRequest (publishes own) change k (accepts edition) = (own ≡ change) × (edition ≡ k)
  AcceptsRequest (publishes own) change k (says said) = ⊥
  AcceptsRequest (asks question) change k said = ⊥

  abbrev pub LooksFor : List Entry → Request Question → Answer Reply → Type 0
  LooksFor log (publishes change) said = ⊥
  LooksFor log (asks question) (accepts edition) = ⊥
  LooksFor log (asks question) (says said) = said ≡ reply log (length log) question

  -- a publication is accepted as its edition, and a question is answered at the newest edition of a log
  abbrev pub core_service : Service (Request Question) (Answer Reply)
  core_service = record {
    Accepts = AcceptsRequest;
    Looks = λ log earlier line said. LooksFor log line said;
    Apart = λ line said. ⊥;
    is_memory = λ said. false;
    is_format = λ line. false;
    ShowsAtMost = λ quits said. Unit {0};
  }

  -- what is answered at an edition rests on the entries up to it alone
  abbrev pub IsLocal : Type 0
  IsLocal = (log : List Entry) (k : ℕ) (question : Question) → k ≤ length log → reply log k question ≡ reply (take k log) k question

  -- a question that is answered at an edition of a log
  abbrev pub question_call : List Entry → ℕ → ℕ → Question → Call (Request Question) (Answer Reply)
  question_call whole caller k question =
      record { caller = caller; line = asks question; reply = says (reply whole k question); sort = look; edition = k }

  -- the call of a caller that an accepted publication is
  abbrev pub publish_calls : ℕ → ℕ → Change → Result Told CoreError → List (Call (Request Question) (Answer Reply))
  publish_calls caller n change (Ok (Published k)) =
      if n == caller then record { caller = caller; line = publishes change; reply = accepts k; sort = publication change; edition = k } ∷ [] else []
  publish_calls caller n change told = []

  -- the calls of a caller at a pin: its questions, answered at the number that the pin was told
  abbrev pub pin_calls : List Entry → ℕ → ℕ → Result Told CoreError → List Question → List (Call (Request Question) (Answer Reply))
  pin_calls whole caller n (Ok (Pinned k)) questions = if n == caller then map (question_call whole caller k) questions else []
  pin_calls whole caller n told questions = []

  -- the calls of a caller that an event is, with the questions at it
  abbrev pub event_calls : List Entry → ℕ → Event → Result Told CoreError → List Question → List (Call (Request Question) (Answer Reply))
  event_calls whole caller (Join n) told questions = []
  event_calls whole caller (Publish n change) told questions = publish_calls caller n change told
  event_calls whole caller (Pin n) told questions = pin_calls whole caller n told questions
  event_calls whole caller (Ask n i) told questions = []
  event_calls whole caller (Done n) told questions = []
  event_calls whole caller (Quit n) told questions = []
  event_calls whole caller (Unpin n) told questions = []
  event_calls whole caller (Leave n) told questions = []

  -- the calls of a caller in a script, which is events with the questions that stand at each
  abbrev pub script_calls : List Entry → ℕ → World → List (Event × List Question) → List (Call (Request Question) (Answer Reply))
  script_calls whole caller w [] = []
  script_calls whole caller w (moment ∷ script) =
      event_calls whole caller moment.0 (answer w moment.0) moment.1 ++ script_calls whole caller (after w moment.0) script

  -- the World after a script
  abbrev pub script_end : World → List (Event × List Question) → World
  script_end w [] = w
  script_end w (moment ∷ script) = script_end (after w moment.0) script

  -- what a caller asked and was answered in a script
  abbrev pub script_exchanges : List (Event × List Question) → ℕ → List (Exchange (Request Question) (Answer Reply))
  script_exchanges script caller = map exchange_of (script_calls (script_end new_world script).log caller new_world script)

  -- whatever questions stand at the pins of whatever events, those of each caller make with its accepted publications its transcript over
  -- the log at the end
  abbrev pub ScriptsAreTranscripts : Type 0
  ScriptsAreTranscripts = (script : List (Event × List Question)) (caller : ℕ)
      → Transcript core_service caller (script_end new_world script).log 0 (script_exchanges script caller)

  -- and those of all callers make with the accepted publications one legal history
  abbrev pub ScriptsAreLegal : Type 0
  ScriptsAreLegal = (script : List (Event × List Question))
      → Legal core_service (script_end new_world script).log (script_end new_world script).next (script_exchanges script)
