use Rattle.mf_render.proofs.Pieces.{markup_given}
use Rattle.mf_render.proofs.pattern.piece_part.Goals as goal

pub returns-in-Markup : goal.returns-in-Markup
returns-in-Markup g c =
    markup_given c.args.«record».now (g.F.Functions.meaning c.args.functions.now) c.args.scope.now c.markup_part.new.scope c.args.piece.now c.in-Markup.markup c.in-Markup.is
    c.markup_part.result c.markup_part.ensures
