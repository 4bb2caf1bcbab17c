use Rattle.std.proofs.Common.{ap}
use Rattle.mf_lex.specs.Cursor.{Place}
use Rattle.mf_lex.proofs.Passing.{passed_bytes, passed_splits}
use Rattle.mf_lex.proofs.cursor.Cursor.at.Goals as goal

pub returns-clause-bytes : goal.returns-clause-bytes
returns-clause-bytes c =
    let inside = c.self.invariant in
    passed_bytes c.args.self.now c.self.inside.text.now c.self.inside.rest.now inside.behind.front inside.text inside.rest inside.behind.split
    (ap (λ (p : Place). p.whole) c.self.view_is) (ap (λ (p : Place). p.left) c.self.view_is)

pub returns-clause-split : goal.returns-clause-split
returns-clause-split c =
    let inside = c.self.invariant in
    passed_splits c.args.self.now c.self.inside.text.now c.self.inside.rest.now inside.behind.front inside.text inside.rest inside.behind.split
    (ap (λ (p : Place). p.whole) c.self.view_is) (ap (λ (p : Place). p.left) c.self.view_is)
