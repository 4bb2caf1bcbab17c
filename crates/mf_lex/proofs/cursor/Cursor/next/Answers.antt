-- What is left is the text's characters but for the first.
use Rattle.std.proofs.Common.{◌≡◌, ◌++◌, ap, sym, ◌∙◌}
use Rattle.std.proofs.lemmas.Str.{chars_past_char, IsUtf8-past_char}
use Rattle.std.specs.Prelude.{encode_utf8}
use Rattle.mf_lex.specs.Cursor.{Place}
use Rattle.mf_lex.proofs.Passing.{ends_behind}
use Rattle.mf_lex.proofs.cursor.Cursor.next.Goals as goal

pub invariant_of-self : goal.invariant_of-self
invariant_of-self c =
    let step : c.self.inside.rest.now ≡ encode_utf8 c.in_ok-next.next ++ c.as_str-self-inside.result.now =
    sym c.chars-chars.ensures.rest ∙ c.in_ok-next.ensures.steps.0 ∙ ap (λ bs. encode_utf8 c.in_ok-next.next ++ bs) (sym c.as_str-self-inside.ensures) in
    record {
      text = c.self.invariant.text;
      rest = IsUtf8-past_char c.self.inside.rest.now c.as_str-self-inside.result.now c.in_ok-next.next c.self.invariant.rest step;
      behind = ends_behind c.self.inside.text.now c.self.inside.rest.now c.as_str-self-inside.result.now c.in_ok-next.next c.self.invariant.behind step;
    }

pub returns-clause-passed : goal.returns-clause-passed
returns-clause-passed c =
    let step : c.self.inside.rest.now ≡ encode_utf8 c.in_ok-next.next ++ c.as_str-self-inside.result.now =
    sym c.chars-chars.ensures.rest ∙ c.in_ok-next.ensures.steps.0 ∙ ap (λ bs. encode_utf8 c.in_ok-next.next ++ bs) (sym c.as_str-self-inside.ensures) in
    sym (ap (λ (p : Place). p.left) c.self.view_is)
    ∙ chars_past_char c.self.inside.rest.now c.as_str-self-inside.result.now c.in_ok-next.next c.self.invariant.rest step
