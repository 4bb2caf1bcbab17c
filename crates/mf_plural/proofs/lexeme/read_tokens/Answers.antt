use Rattle.std.proofs.Common.{◌≡◌, ◌∙◌, ◌++◌, ◌∷◌, ap, sym, drop}
use Rattle.std.specs.Option.{option_map}
use Rattle.mf_plural.specs.Computed.{lexemes, all_of, token_of, tokens_of}
use Rattle.mf_plural.proofs.Gathering.{all_more}
use Rattle.mf_plural.proofs.lexeme.read_tokens.Goals as goal
use Rattle.mf_plural.proofs.lexeme.read_tokens.Goals.{After-of}

cut : (c : After-of) → lexemes c.loop-rest.rest.now ≡ c.split_at.result.0.now ∷ lexemes c.split_at.result.1.now
cut c =
    c.lexeme_len.ensures.cut
    ∙ ap (λ piece. piece ∷ lexemes (drop c.lexeme_len.result c.loop-rest.rest.now)) (sym c.split_at.ensures.front)
    ∙ ap (λ rest. c.split_at.result.0.now ∷ lexemes rest) (sym c.split_at.ensures.back)

so_far : (c : After-of) → tokens_of c.args.text.now ≡ option_map (λ more. c.loop-rest.found ++ more) (all_of token_of (c.split_at.result.0.now ∷ lexemes c.split_at.result.1.now))
so_far c = c.loop-rest.invariant.same ∙ ap (λ pieces. option_map (λ more. c.loop-rest.found ++ more) (all_of token_of pieces)) (cut c)

pub loop-rest-preserved : goal.loop-rest-preserved
loop-rest-preserved c = record {
  same =
      all_more token_of (tokens_of c.args.text.now) c.loop-rest.found c.push.new.self c.split_at.result.0.now (lexemes c.split_at.result.1.now) c.in-Some.token
      (so_far (goal.at.loop-rest-preserved c).After-of) c.in-Some.ensures c.in_ok-push.ensures.ok
      ∙ ap (λ pieces. option_map (λ more. c.push.new.self ++ more) (all_of token_of pieces)) (sym c.after_white-rest-in-loop-rest.ensures.same);
  begins = c.after_white-rest-in-loop-rest.ensures.begins;
}
