-- What was read, and one member more.
use Rattle.std.proofs.Common.{◌≡◌, ℕ, List, Option, Some, None, codes, Equal, ◌∙◌}
use Rattle.std.specs.Borrow.{Bor}
use Rattle.std.specs.Cmp.Lexicographic.{slice_cmp}
use Rattle.std.specs.Ordering.{nat_cmp}
use Rattle.serde_json.specs.Data.{Data, Members, number, object, put, string, unsigned}
use Rattle.mf_text.specs.declared.arguments.Argued.{Argued}
use Rattle.mf_requests.specs.Sentences.{AreArguments, Shows, ShowsArguments, ShowsNumber, ShowsText}
use Rattle.mf_requests.specs.declared.sentence.Sentence.{Sentence}
use Rattle.mf_requests.proofs.Putting.{put_kept, put_there}

abbrev AreApart : List ℕ → List ℕ → Type 0
AreApart k l = slice_cmp nat_cmp k l ≡ Equal → ⊥

text_kept : (k l : List ℕ) (d : Data) (ms : Members) (text : Option (Bor (List ℕ))) → AreApart k l → ShowsText k text ms → ShowsText k text (put l d ms)
text_kept k l d ms text apart shows = put_kept k l d ms apart ∙ shows

number_kept : (k l : List ℕ) (d : Data) (ms : Members) (whole : Option ℕ) → AreApart k l → ShowsNumber k whole ms → ShowsNumber k whole (put l d ms)
number_kept k l d ms whole apart shows = put_kept k l d ms apart ∙ shows

arguments_kept : (k l : List ℕ) (d : Data) (ms : Members) (arguments : Option (List (List ℕ × Argued))) → AreApart k l
    → ShowsArguments k arguments ms → ShowsArguments k arguments (put l d ms)
arguments_kept k l d ms None apart shows = put_kept k l d ms apart ∙ shows
arguments_kept k l d ms (Some arguments) apart shows =
    record { members = shows.members; is_object = put_kept k l d ms apart ∙ shows.is_object; read = shows.read }

module _ (s : Sentence) (ms : Members) (shows : Shows s ms) where
  pub shows_op : (text : Bor (List ℕ)) → Shows (record s { op = Some text }) (put (codes "op") (string text.now) ms)
  shows_op text = record {
    op = put_there (codes "op") (string text.now) ms;
    locale = text_kept (codes "locale") (codes "op") _ ms s.locale (λ e. cc) shows.locale;
    id = text_kept (codes "id") (codes "op") _ ms s.id (λ e. cc) shows.id;
    arguments = arguments_kept (codes "args") (codes "op") _ ms s.arguments (λ e. cc) shows.arguments;
    since = number_kept (codes "since") (codes "op") _ ms s.since (λ e. cc) shows.since;
  }

  pub shows_locale : (text : Bor (List ℕ)) → Shows (record s { locale = Some text }) (put (codes "locale") (string text.now) ms)
  shows_locale text = record {
    op = text_kept (codes "op") (codes "locale") _ ms s.op (λ e. cc) shows.op;
    locale = put_there (codes "locale") (string text.now) ms;
    id = text_kept (codes "id") (codes "locale") _ ms s.id (λ e. cc) shows.id;
    arguments = arguments_kept (codes "args") (codes "locale") _ ms s.arguments (λ e. cc) shows.arguments;
    since = number_kept (codes "since") (codes "locale") _ ms s.since (λ e. cc) shows.since;
  }

  pub shows_id : (text : Bor (List ℕ)) → Shows (record s { id = Some text }) (put (codes "id") (string text.now) ms)
  shows_id text = record {
    op = text_kept (codes "op") (codes "id") _ ms s.op (λ e. cc) shows.op;
    locale = text_kept (codes "locale") (codes "id") _ ms s.locale (λ e. cc) shows.locale;
    id = put_there (codes "id") (string text.now) ms;
    arguments = arguments_kept (codes "args") (codes "id") _ ms s.arguments (λ e. cc) shows.arguments;
    since = number_kept (codes "since") (codes "id") _ ms s.since (λ e. cc) shows.since;
  }

  pub shows_arguments : (arguments : List (List ℕ × Argued)) (found : Members) → AreArguments (Some (object found)) arguments
      → Shows (record s { arguments = Some arguments }) (put (codes "args") (object found) ms)
  shows_arguments arguments found are = record {
    op = text_kept (codes "op") (codes "args") _ ms s.op (λ e. cc) shows.op;
    locale = text_kept (codes "locale") (codes "args") _ ms s.locale (λ e. cc) shows.locale;
    id = text_kept (codes "id") (codes "args") _ ms s.id (λ e. cc) shows.id;
    arguments = record {
      members = are.members;
      is_object = put_there (codes "args") (object found) ms ∙ are.is_object;
      read = are.read;
    };
    since = number_kept (codes "since") (codes "args") _ ms s.since (λ e. cc) shows.since;
  }

  pub shows_since : (whole : ℕ) → Shows (record s { since = Some whole }) (put (codes "since") (number (unsigned whole)) ms)
  shows_since whole = record {
    op = text_kept (codes "op") (codes "since") _ ms s.op (λ e. cc) shows.op;
    locale = text_kept (codes "locale") (codes "since") _ ms s.locale (λ e. cc) shows.locale;
    id = text_kept (codes "id") (codes "since") _ ms s.id (λ e. cc) shows.id;
    arguments = arguments_kept (codes "args") (codes "since") _ ms s.arguments (λ e. cc) shows.arguments;
    since = put_there (codes "since") (number (unsigned whole)) ms;
  }
