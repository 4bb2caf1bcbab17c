-- One more request of a script.
use Rattle.std.proofs.Common.{◌≡◌, ℕ, ◌+◌, List, ◌++◌, sym, ap, ◌∙◌, add-one}
use Rattle.mf_lines.specs.Served.{ended}
use Rattle.mf_mill.specs.Scripts.{last_digits, publication_behind, requests_to, sentence_line}
use Rattle.mf_mill.proofs.Joined.{two}

turn : (j : ℕ) → requests_to j ++ (publication_behind j ++ ended (sentence_line (last_digits (j + 1)))) ≡ requests_to (j + 1)
turn j =
    ap (λ n. requests_to j ++ (publication_behind j ++ ended (sentence_line (last_digits n)))) (add-one j)
    ∙ ap requests_to (sym (add-one j))

pub one_more : (start old new : List ℕ) (j : ℕ) → old ≡ start ++ requests_to j
    → new ≡ old ++ (publication_behind j ++ ended (sentence_line (last_digits (j + 1)))) → new ≡ start ++ requests_to (j + 1)
one_more start old new j e f =
    two start (requests_to j) (publication_behind j ++ ended (sentence_line (last_digits (j + 1)))) old new e f
    ∙ ap (λ l. start ++ l) (turn j)
