-- At the end of the loop the tags and the last one are all the truncations.
use Rattle.std.proofs.Common.{◌≡◌, ◌==◌, ◌++◌, ◌∷◌, [], true, false, ap, sym, ◌∙◌, encode_utf8_all}
use Rattle.std.specs.Cmp.Lexicographic.{pointwise}
use Rattle.mf_locale.specs.Chain.{each_truncation, ending_in_und, truncations, und}
use Rattle.mf_locale.proofs.Truncations.{encode-IsLowerTag, ending_in_und-there, ending_in_und-added}
use Rattle.mf_locale.proofs.lookup.chain.Goals as goal
use Rattle.mf_locale.proofs.lookup.chain.Goals.{then-not-is_und+in_ok-und+in_ok-push-3, else-not-is_und}

pub returns : goal.returns
returns c =
    let parts : c.loop-last.tags ++ c.loop-last.last ∷ [] ≡ truncations c.args.tag.now =
    sym (ap (λ ts. c.loop-last.tags ++ ts) (c.in_ok-shorter.ensures.truncated ∙ ap (λ t. c.loop-last.last ∷ each_truncation t) c.in_default.is)) ∙ c.loop-last.invariant in
    let test : c.eq-is_und.result ≡ pointwise ◌==◌ c.loop-last.last und =
    c.eq-is_und.ensures ∙ ap (λ t. pointwise ◌==◌ t und) (c.as_str.ensures.bytes ∙ ap encode_utf8_all c.as_text.ensures.text ∙ encode-IsLowerTag c.loop-last.last c.as_text.ensures.tag) in
    elim c.if-not-is_und.branch [
      | then-not-is_und+in_ok-und+in_ok-push-3 w ↦
          let missing : pointwise ◌==◌ c.loop-last.last und ≡ false = cc in
          w.tags-is ∙ w.in_ok-push-3.ensures.ok ∙ ap (λ t. c.push-2.new.self ++ t ∷ []) w.in_ok-und.ensures ∙ ap (λ ts. ts ++ und ∷ []) c.in_ok-push-2.ensures.ok
          ∙ sym (ending_in_und-added c.loop-last.tags c.loop-last.last missing) ∙ ap ending_in_und parts
      | else-not-is_und w ↦
          let there : pointwise ◌==◌ c.loop-last.last und ≡ true = cc in
          w.tags-is ∙ c.in_ok-push-2.ensures.ok ∙ sym (ending_in_und-there c.loop-last.tags c.loop-last.last there) ∙ ap ending_in_und parts
    ]
