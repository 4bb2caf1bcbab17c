-- A text cut into tokens is the tokens with white space between them.
use Rattle.std.proofs.Common.{◌≡◌, ◌≢◌, ◌∙◌, ℕ, Bool, true, false, cond, List, [], ◌∷◌, ◌++◌, refl, ap, sym, subst, arith}
use Rattle.std.specs.List.{list_all, onto_first}
use Rattle.std.specs.Prelude.{◌&&◌, ◌||◌, not}
use Rattle.std.proofs.lemmas.Bool.{and_parts, false≢true}
use Rattle.std.proofs.lemmas.Bool.Decides.{nat_tests}
use Rattle.mf_plural.specs.Computed.{are_joined, is_letter, lexemes}
use Rattle.mf_plural.specs.Grammar.{Begins, Each, SpellsSpaced, SpellsToken, is_word, is_white}
use Rattle.mf_plural.specs.declared.token.Token.{Token}
use Rattle.mf_plural.proofs.Ends.{first_of, HasEnds, is_chain, is_close, joined_is, last_of, token_ends}
use Rattle.mf_plural.proofs.Lexing.{past_white}

-- the last byte of a piece isn't joined to the first of the rest
abbrev pub IsApart : ℕ → List ℕ → Type 0
IsApart last [] = Unit {0}
IsApart last (c ∷ cs) = are_joined last c ≡ false

-- no two tokens side by side are close
abbrev pub AreNotClose : List Token → Type 0
AreNotClose [] = Unit {0}
AreNotClose (t ∷ []) = Unit {0}
AreNotClose (t ∷ u ∷ ts) = (is_close t u ≡ false) × AreNotClose (u ∷ ts)

not_true : (b : Bool) → not b ≡ true → b ≡ false
not_true true is = absurd (false≢true is)
not_true false is = refl

not_white : (c : ℕ) → is_white c ≡ false → not (is_white c) ≡ true
not_white c is = ap not is

no_first : {A : Type 0} (c : A) (cs : List A) → c ∷ cs ≡ [] → ⊥
no_first c cs is = cc

lexeme_alone : (c : ℕ) (rest : List ℕ) → is_white c ≡ false → IsApart c rest → lexemes (c ∷ rest) ≡ (c ∷ []) ∷ lexemes rest
lexeme_alone c [] white apart = ap (λ (b : Bool). cond b [] ((c ∷ []) ∷ [])) white
lexeme_alone c (d ∷ ds) white apart =
    ap (λ (b : Bool). cond b (lexemes (d ∷ ds)) (cond (are_joined c d) (onto_first c (lexemes (d ∷ ds))) ((c ∷ []) ∷ lexemes (d ∷ ds)))) white
    ∙ ap (λ (b : Bool). cond b (onto_first c (lexemes (d ∷ ds))) ((c ∷ []) ∷ lexemes (d ∷ ds))) apart

lexeme_longer : (c d : ℕ) (ds : List ℕ) → is_white c ≡ false → are_joined c d ≡ true → lexemes (c ∷ d ∷ ds) ≡ onto_first c (lexemes (d ∷ ds))
lexeme_longer c d ds white joined =
    ap (λ (b : Bool). cond b (lexemes (d ∷ ds)) (cond (are_joined c d) (onto_first c (lexemes (d ∷ ds))) ((c ∷ []) ∷ lexemes (d ∷ ds)))) white
    ∙ ap (λ (b : Bool). cond b (onto_first c (lexemes (d ∷ ds))) ((c ∷ []) ∷ lexemes (d ∷ ds))) joined

-- a chain that isn't joined to the rest is a piece
chain_lexeme : (piece rest : List ℕ) → is_chain piece ≡ true → IsApart (last_of piece) rest → lexemes (piece ++ rest) ≡ piece ∷ lexemes rest
chain_lexeme [] rest chain apart = absurd (false≢true chain)
chain_lexeme (c ∷ []) rest chain apart = lexeme_alone c rest (not_true (is_white c) chain) apart
chain_lexeme (c ∷ d ∷ cs) rest chain apart =
    let outer = and_parts (not (is_white c)) (are_joined c d && is_chain (d ∷ cs)) chain in
    let inner = and_parts (are_joined c d) (is_chain (d ∷ cs)) outer.1 in
    lexeme_longer c d (cs ++ rest) (not_true (is_white c) outer.0) inner.0 ∙ ap (onto_first c) (chain_lexeme (d ∷ cs) rest inner.1 apart)

white_lexemes : (white rest : List ℕ) → list_all is_white white ≡ true → lexemes (white ++ rest) ≡ lexemes rest
white_lexemes [] rest each = refl
white_lexemes (c ∷ white) rest each =
    let parts = and_parts (is_white c) (list_all is_white white) each in
    past_white c (white ++ rest) parts.0 ∙ white_lexemes white rest parts.1

blank_lexemes : (text : List ℕ) → list_all is_white text ≡ true → lexemes text ≡ []
blank_lexemes [] each = refl
blank_lexemes (c ∷ text) each =
    let parts = and_parts (is_white c) (list_all is_white text) each in
    past_white c text parts.0 ∙ blank_lexemes text parts.1

white_apart : (last c : ℕ) → is_white c ≡ true → are_joined last c ≡ false
white_apart last c white = grind (arith, nat_tests, white)

first_apart : (last : ℕ) (white rest : List ℕ) → list_all is_white white ≡ true → white ≢ [] → IsApart last (white ++ rest)
first_apart last [] rest each some = absurd (some refl)
first_apart last (c ∷ white) rest each some = white_apart last c (and_parts (is_white c) (list_all is_white white) each).0

blank_apart : (last : ℕ) (text : List ℕ) → list_all is_white text ≡ true → IsApart last text
blank_apart last [] each = tt
blank_apart last (c ∷ text) each = white_apart last c (and_parts (is_white c) (list_all is_white text) each).0

chain_apart : (last : ℕ) (piece rest : List ℕ) → is_chain piece ≡ true → are_joined last (first_of piece) ≡ false → IsApart last (piece ++ rest)
chain_apart last [] rest chain apart = absurd (false≢true chain)
chain_apart last (c ∷ cs) rest chain apart = apart

-- behind a token, the next one is not joined to it
step_apart : (p : List ℕ) (t u : Token) (text rest : List ℕ) → HasEnds p t → is_close t u ≡ false → Begins (is_word t) text u rest → IsApart (last_of p) text
step_apart p t u text rest ends far begins = subst (λ x. IsApart (last_of p) x) (sym begins.parts) (by_white begins.white refl)
  where
    next : HasEnds begins.piece u
    next = token_ends begins.piece u begins.spelled

    by_words : (b : Bool) → (is_word t && is_word u) ≡ b → (white : List ℕ) → begins.white ≡ white → white ≡ [] → IsApart (last_of p) (begins.piece ++ rest)
    by_words true words white is none = absurd (begins.apart words (is ∙ none))
    by_words false words white is none =
        chain_apart (last_of p) begins.piece rest next.chain
        (joined_is p begins.piece t u ends next ∙ ap (λ (b : Bool). b || is_close t u) words ∙ far)

    by_white : (white : List ℕ) → begins.white ≡ white → IsApart (last_of p) (begins.white ++ (begins.piece ++ rest))
    by_white [] is = subst (λ w. IsApart (last_of p) (w ++ (begins.piece ++ rest))) (sym is) (by_words (is_word t && is_word u) refl [] is refl)
    by_white (c ∷ cs) is = first_apart (last_of p) begins.white (begins.piece ++ rest) begins.is_space (λ none. no_first c cs (sym is ∙ none))

rest_apart : (p : List ℕ) (t : Token) (rest : List ℕ) (ts : List Token) → HasEnds p t → AreNotClose (t ∷ ts) → SpellsSpaced (is_word t) rest ts → IsApart (last_of p) rest
rest_apart p t rest [] ends far spaced = blank_apart (last_of p) rest spaced
rest_apart p t rest (u ∷ us) ends far spaced = step_apart p t u rest spaced.0 ends far.0 spaced.1

tail_far : (t : Token) (ts : List Token) → AreNotClose (t ∷ ts) → AreNotClose ts
tail_far t [] far = tt
tail_far t (u ∷ us) far = far.1

-- tokens with white space between them are what the text is cut into
pub cut_so : (behind : Bool) (text : List ℕ) (tokens : List Token) → AreNotClose tokens → SpellsSpaced behind text tokens → Each SpellsToken (lexemes text) tokens
cut_so behind text [] far spaced = subst (λ pieces. Each SpellsToken pieces []) (sym (blank_lexemes text spaced)) tt
cut_so behind text (t ∷ ts) far spaced =
    let begins = spaced.1 in
    let ends = token_ends begins.piece t begins.spelled in
    let cut : lexemes text ≡ begins.piece ∷ lexemes spaced.0 =
    ap lexemes begins.parts
    ∙ white_lexemes begins.white (begins.piece ++ spaced.0) begins.is_space
    ∙ chain_lexeme begins.piece spaced.0 ends.chain (rest_apart begins.piece t spaced.0 ts ends far spaced.2) in
    subst (λ pieces. Each SpellsToken pieces (t ∷ ts)) (sym cut) (begins.spelled, cut_so (is_word t) spaced.0 ts (tail_far t ts far) spaced.2)

-- the first piece of a text, and what stands around it
record Cut (text piece : List ℕ) (pieces : List (List ℕ)) : Type 0 where
  white : List ℕ
  rest : List ℕ
  parts : text ≡ white ++ (piece ++ rest)
  is_space : list_all is_white white ≡ true
  others : lexemes rest ≡ pieces
  apart : IsApart (last_of piece) rest
  some : piece ≢ []
  begins : is_white (first_of piece) ≡ false

same_first : {A : Type 0} (x y : A) (xs ys : List A) → x ∷ xs ≡ y ∷ ys → (x ≡ y) × (xs ≡ ys)
same_first x y xs ys is = (cc, cc)

no_pieces : {A : Type 0} (x : A) (xs : List A) → [] ≡ x ∷ xs → ⊥
no_pieces x xs is = cc

past_first : (c : ℕ) (text piece : List ℕ) (pieces : List (List ℕ)) → is_white c ≡ true → Cut text piece pieces → Cut (c ∷ text) piece pieces
past_first c text piece pieces white cut = record {
  white = c ∷ cut.white;
  rest = cut.rest;
  parts = ap (λ cs. c ∷ cs) cut.parts;
  is_space = ap (λ (b : Bool). b && list_all is_white cut.white) white ∙ cut.is_space;
  others = cut.others;
  apart = cut.apart;
  some = cut.some;
  begins = cut.begins;
}

alone : (c : ℕ) (rest : List ℕ) → is_white c ≡ false → IsApart c rest → Cut (c ∷ rest) (c ∷ []) (lexemes rest)
alone c rest white apart = record {
  white = [];
  rest = rest;
  parts = refl;
  is_space = refl;
  others = refl;
  apart = apart;
  some = no_first c [];
  begins = white;
}

-- a text that begins with no white space begins with its first piece
longer : (c d : ℕ) (ds piece : List ℕ) (pieces : List (List ℕ)) → is_white c ≡ false → is_white d ≡ false → Cut (d ∷ ds) piece pieces → Cut (c ∷ d ∷ ds) (c ∷ piece) pieces
longer c d ds piece pieces white next cut = by_white cut.white refl
  where
    last_same : (piece : List ℕ) → piece ≢ [] → last_of (c ∷ piece) ≡ last_of piece
    last_same [] some = absurd (some refl)
    last_same (e ∷ es) some = refl

    by_white : (w : List ℕ) → cut.white ≡ w → Cut (c ∷ d ∷ ds) (c ∷ piece) pieces
    by_white [] is = record {
      white = [];
      rest = cut.rest;
      parts = ap (λ cs. c ∷ cs) (cut.parts ∙ ap (λ w. w ++ (piece ++ cut.rest)) is);
      is_space = refl;
      others = cut.others;
      apart = subst (λ n. IsApart n cut.rest) (sym (last_same piece cut.some)) cut.apart;
      some = no_first c piece;
      begins = white;
    }
    by_white (e ∷ es) is =
        let first = same_first d e ds (es ++ (piece ++ cut.rest)) (cut.parts ∙ ap (λ w. w ++ (piece ++ cut.rest)) is) in
        let is_space : list_all is_white (e ∷ es) ≡ true = ap (λ w. list_all is_white w) (sym is) ∙ cut.is_space in
        let e_white : is_white e ≡ true = (and_parts (is_white e) (list_all is_white es) is_space).0 in
        absurd (false≢true (sym next ∙ ap is_white first.0 ∙ e_white))

onto_some : (c d : ℕ) (pieces : List (List ℕ)) (joined : Bool) → cond joined (onto_first c pieces) ((c ∷ []) ∷ pieces) ≡ [] → ⊥
onto_some c d pieces false none = no_first (c ∷ []) pieces none
onto_some c d [] true none = no_first (c ∷ []) [] none
onto_some c d (piece ∷ pieces) true none = no_first (c ∷ piece) pieces none

some_lexemes : (c : ℕ) (cs : List ℕ) → is_white c ≡ false → lexemes (c ∷ cs) ≡ [] → ⊥
some_lexemes c [] white none = no_first (c ∷ []) [] (sym (lexeme_alone c [] white tt) ∙ none)
some_lexemes c (d ∷ ds) white none =
    onto_some c d (lexemes (d ∷ ds)) (are_joined c d)
    (sym (ap (λ (b : Bool). cond b (lexemes (d ∷ ds)) (cond (are_joined c d) (onto_first c (lexemes (d ∷ ds))) ((c ∷ []) ∷ lexemes (d ∷ ds)))) white) ∙ none)

at_cut : (text p piece : List ℕ) (ps pieces : List (List ℕ)) → p ∷ ps ≡ piece ∷ pieces → Cut text p ps → Cut text piece pieces
at_cut text p piece ps pieces is cut =
    let parts = same_first p piece ps pieces is in
    subst (λ x. Cut text x pieces) parts.0 (subst (λ xs. Cut text p xs) parts.1 cut)

joined_white : (c d : ℕ) → are_joined c d ≡ true → is_white d ≡ false
joined_white c d joined = grind (arith, nat_tests, joined)

cut_joined : (c d : ℕ) (ds : List ℕ) → is_white c ≡ false → are_joined c d ≡ true
    → ((p : List ℕ) (ps : List (List ℕ)) → lexemes (d ∷ ds) ≡ p ∷ ps → Cut (d ∷ ds) p ps)
    → (found : List (List ℕ)) → lexemes (d ∷ ds) ≡ found → (piece : List ℕ) (pieces : List (List ℕ)) → onto_first c found ≡ piece ∷ pieces → Cut (c ∷ d ∷ ds) piece pieces
cut_joined c d ds white joined ih [] found piece pieces is = absurd (some_lexemes d ds (joined_white c d joined) found)
cut_joined c d ds white joined ih (p ∷ ps) found piece pieces is =
    at_cut (c ∷ d ∷ ds) (c ∷ p) piece ps pieces is (longer c d ds p ps white (joined_white c d joined) (ih p ps found))

cut_two : (c d : ℕ) (ds : List ℕ) → is_white c ≡ false → ((p : List ℕ) (ps : List (List ℕ)) → lexemes (d ∷ ds) ≡ p ∷ ps → Cut (d ∷ ds) p ps)
    → (joined : Bool) → are_joined c d ≡ joined → (piece : List ℕ) (pieces : List (List ℕ)) → lexemes (c ∷ d ∷ ds) ≡ piece ∷ pieces → Cut (c ∷ d ∷ ds) piece pieces
cut_two c d ds white ih true joined piece pieces is =
    cut_joined c d ds white joined ih (lexemes (d ∷ ds)) refl piece pieces (sym (lexeme_longer c d ds white joined) ∙ is)
cut_two c d ds white ih false joined piece pieces is =
    at_cut (c ∷ d ∷ ds) (c ∷ []) piece (lexemes (d ∷ ds)) pieces (sym (lexeme_alone c (d ∷ ds) white joined) ∙ is) (alone c (d ∷ ds) white joined)

cut_plain : (c : ℕ) (cs : List ℕ) → is_white c ≡ false → ((p : List ℕ) (ps : List (List ℕ)) → lexemes cs ≡ p ∷ ps → Cut cs p ps)
    → (piece : List ℕ) (pieces : List (List ℕ)) → lexemes (c ∷ cs) ≡ piece ∷ pieces → Cut (c ∷ cs) piece pieces
cut_plain c [] white ih piece pieces is = at_cut (c ∷ []) (c ∷ []) piece [] pieces (sym (lexeme_alone c [] white tt) ∙ is) (alone c [] white tt)
cut_plain c (d ∷ ds) white ih piece pieces is = cut_two c d ds white ih (are_joined c d) refl piece pieces is

cut_next : (c : ℕ) (cs : List ℕ) → ((p : List ℕ) (ps : List (List ℕ)) → lexemes cs ≡ p ∷ ps → Cut cs p ps)
    → (white : Bool) → is_white c ≡ white → (piece : List ℕ) (pieces : List (List ℕ)) → lexemes (c ∷ cs) ≡ piece ∷ pieces → Cut (c ∷ cs) piece pieces
cut_next c cs ih true white piece pieces is = past_first c cs piece pieces white (ih piece pieces (sym (past_white c cs white) ∙ is))
cut_next c cs ih false white piece pieces is = cut_plain c cs white ih piece pieces is

cut_of : (text piece : List ℕ) (pieces : List (List ℕ)) → lexemes text ≡ piece ∷ pieces → Cut text piece pieces
cut_of [] piece pieces is = absurd (no_pieces piece pieces is)
cut_of (c ∷ cs) piece pieces is = cut_next c cs (cut_of cs) (is_white c) refl piece pieces is

blank_next : (c : ℕ) (cs : List ℕ) → (lexemes cs ≡ [] → list_all is_white cs ≡ true) → (white : Bool) → is_white c ≡ white → lexemes (c ∷ cs) ≡ [] → list_all is_white (c ∷ cs) ≡ true
blank_next c cs ih true white none = ap (λ (b : Bool). b && list_all is_white cs) white ∙ ih (sym (past_white c cs white) ∙ none)
blank_next c cs ih false white none = absurd (some_lexemes c cs white none)

blank_of : (text : List ℕ) → lexemes text ≡ [] → list_all is_white text ≡ true
blank_of [] none = refl
blank_of (c ∷ cs) none = blank_next c cs (blank_of cs) (is_white c) refl none

each_none : (pieces : List (List ℕ)) → Each SpellsToken pieces [] → pieces ≡ []
each_none [] each = refl
each_none (piece ∷ pieces) each = absurd each

each_some : (pieces : List (List ℕ)) (t : Token) (ts : List Token) → Each SpellsToken pieces (t ∷ ts)
    → (piece : List ℕ) × (rest : List (List ℕ)) × (pieces ≡ piece ∷ rest) × SpellsToken piece t × Each SpellsToken rest ts
each_some [] t ts each = absurd each
each_some (piece ∷ pieces) t ts each = (piece, pieces, refl, each.0, each.1)

both_letters : (c d : ℕ) → is_letter c ≡ true → is_letter d ≡ true → are_joined c d ≡ true
both_letters c d left right = grind (arith, nat_tests, left, right)

none_apart : (last : ℕ) (piece rest : List ℕ) → piece ≢ [] → IsApart last (piece ++ rest) → are_joined last (first_of piece) ≡ false
none_apart last [] rest some apart = absurd (some refl)
none_apart last (c ∷ cs) rest some apart = apart

words_apart : (behind : Bool) (last : ℕ) (text piece : List ℕ) (pieces : List (List ℕ)) (t : Token) → (behind ≡ true → is_letter last ≡ true) → IsApart last text
    → SpellsToken piece t → (cut : Cut text piece pieces) → (behind && is_word t) ≡ true → cut.white ≡ [] → ⊥
words_apart behind last text piece pieces t word apart spelled cut both none =
    let ends = token_ends piece t spelled in
    let parts = and_parts behind (is_word t) both in
    let text_is : text ≡ piece ++ cut.rest = cut.parts ∙ ap (λ w. w ++ (piece ++ cut.rest)) none in
    let far : are_joined last (first_of piece) ≡ false = none_apart last piece cut.rest cut.some (subst (λ x. IsApart last x) text_is apart) in
    let near : are_joined last (first_of piece) ≡ true = both_letters last (first_of piece) (word parts.0) (ends.first_letter ∙ parts.1) in
    false≢true (sym far ∙ near)

-- what a text is cut into are tokens with white space between them
spaced_so : (behind : Bool) (last : ℕ) (text : List ℕ) (tokens : List Token) → (behind ≡ true → is_letter last ≡ true) → IsApart last text
    → Each SpellsToken (lexemes text) tokens → SpellsSpaced behind text tokens
spaced_so behind last text [] word apart each = blank_of text (each_none (lexemes text) each)
spaced_so behind last text (t ∷ ts) word apart each =
    let first = each_some (lexemes text) t ts each in
    let cut = cut_of text first.0 first.1 first.2 in
    let ends = token_ends first.0 t first.3 in
    let begins : Begins behind text t cut.rest =
    record {
      white = cut.white;
      piece = first.0;
      parts = cut.parts;
      is_space = cut.is_space;
      spelled = first.3;
      apart = words_apart behind last text first.0 first.1 t word apart first.3 cut;
    } in
    (cut.rest, begins, spaced_so (is_word t) (last_of first.0) cut.rest ts (λ is. ends.last_letter ∙ is) cut.apart (subst (λ pieces. Each SpellsToken pieces ts) (sym cut.others) first.4))

no_joined : (c : ℕ) → are_joined 0 c ≡ false
no_joined c = refl

none_before : (text : List ℕ) → IsApart 0 text
none_before [] = tt
none_before (c ∷ cs) = no_joined c

pub spaced_from_cut : (text : List ℕ) (tokens : List Token) → Each SpellsToken (lexemes text) tokens → SpellsSpaced false text tokens
spaced_from_cut text tokens each = spaced_so false 0 text tokens (λ is. absurd (false≢true is)) (none_before text) each
