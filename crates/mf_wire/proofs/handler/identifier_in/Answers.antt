-- The whole text was read where nothing is left of it.
use Rattle.std.proofs.Common.{◌≡◌, Some, ap, sym, ◌∙◌, chars, subst}
use Rattle.mf_lex.specs.Computed.{identifier_at}
use Rattle.mf_lex.specs.Cursor.{Place}
use Rattle.mf_lex.specs.Readers.{Finds}
use Rattle.mf_wire.proofs.Identifiers.{at_end, read_front}
use Rattle.mf_wire.proofs.handler.identifier_in.Goals as goal

pub returns-in_ok-identifier_node-in-None : goal.returns-in_ok-identifier_node-in-None
returns-in_ok-identifier_node-in-None c =
    let text = chars c.args.text.now in
    let left = c.identifier.new.self.left in
    let found = subst (λ ident. Finds identifier_at ident c.new-cursor.result.left left) c.in-Some.is c.in_ok-ident.ensures.computed in
    let front : identifier_at text ≡ Some (c.in-Some.ident, left) = ap (λ (place : Place). identifier_at place.left) (sym c.new-cursor.ensures) ∙ found in
    ap Some c.in_ok-identifier_node-in-None.ensures
    ∙ sym (at_end c.in-Some.ident left (sym c.in-None.is ∙ c.peek.ensures))
    ∙ sym (read_front text c.in-Some.ident left front)
