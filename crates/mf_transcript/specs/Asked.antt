-- What a line asks for, or the reply that refuses it: the wire refuses a line, and the check of a handler that it publishes.
use Rattle.std.specs.Prelude.{ℕ, List, Option, Some, None, Result, Ok, Err}
use Rattle.mf_edition.specs.declared.change.Change.{Change}
use Rattle.mf_edition.specs.declared.change.Change.TheVariants.{Catalogue, Locale, Handler}
use Rattle.mf_edition.specs.declared.handler.Handler.{Handler as Named}
use Rattle.mf_meaning.specs.Handlers.{checked}
use Rattle.mf_value.specs.declared.handler.DefError.{DefError}
use Rattle.mf_value.specs.declared.handler.DefError.TheVariants.{ReservedName, BadBase, BadOption, RepeatedKey}
use Rattle.mf_wire.specs.Requests.{line_request}
use Rattle.mf_wire.specs.declared.reply.Reason.{Reason}
use Rattle.mf_wire.specs.declared.reply.Reason.TheVariants as reason
use Rattle.mf_wire.specs.declared.reply.Reply.{Reply}
use Rattle.mf_wire.specs.declared.reply.Reply.TheVariants.{BadHandler}
use Rattle.mf_wire.specs.declared.request.Request.{Request}
use Rattle.mf_wire.specs.declared.request.Request.TheVariants.{Format, Lint, Publish, Stat}

-- what is wrong with a handler, in one word
abbrev pub reason_of : DefError → Reason
reason_of ReservedName = reason.ReservedName
reason_of BadBase = reason.BadBase
reason_of (BadOption index) = reason.BadOption
reason_of (RepeatedKey index) = reason.RepeatedKey

-- why a handler that was checked may not be published, if it may not
abbrev pub reason_in : Result (Unit {0}) DefError → Option Reason
reason_in (Ok fine) = None
reason_in (Err error) = Some (reason_of error)

abbrev pub reason_against_handler : Named → Option Reason
reason_against_handler handler = reason_in (checked handler.name handler.def)

-- why a change may not be published, whatever the log has: a handler alone is checked
abbrev pub reason_against : Change → Option Reason
reason_against (Catalogue catalogue) = None
reason_against (Locale tag place size) = None
reason_against (Handler handler) = reason_against_handler handler

-- a publication, or the reply that refuses its handler
abbrev pub publication : Change → Option Reason → Result Request Reply
publication change None = Ok (Publish change)
publication change (Some reason) = Err (BadHandler reason)

abbrev pub request_checked : Request → Result Request Reply
request_checked (Publish change) = publication change (reason_against change)
request_checked (Format tag id arguments since) = Ok (Format tag id arguments since)
request_checked (Lint source) = Ok (Lint source)
request_checked Stat = Ok Stat

abbrev pub asked_checked : Result Request Reply → Result Request Reply
asked_checked (Ok request) = request_checked request
asked_checked (Err refusal) = Err refusal

-- the request of a line, or the reply that refuses it by what the line says: a publication may still be refused by the log
abbrev pub request_of : List ℕ → Result Request Reply
request_of line = asked_checked (line_request line)
