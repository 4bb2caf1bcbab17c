use Rattle.std.proofs.Common.{length, refl, subst, false}
use Rattle.mf_resolve.specs.Resolving.{ResolvesOptions, ScopeState}
use Rattle.mf_resolve.proofs.Giving.{markup_gives}
use Rattle.mf_resolve.proofs.scope.Scope.resolve_markup.Goals as goal

pub returns : goal.returns
returns g c =
    let meaning = g.F.Functions.meaning c.args.functions.now in
    let old = c.args.self.now in
    let new = c.resolve_options.new.self in
    let markup = c.args.markup.now in
    let settings = c.in_ok-settings.settings in
    markup_gives meaning old new markup settings _
    (subst (λ (s : ScopeState). ResolvesOptions meaning (length s.declarations) old new false markup.options settings) c.self.view_is
    (subst (λ options. ResolvesOptions meaning (length c.self.inside.declarations.now) old new false options settings) c.as_slice.ensures c.in_ok-settings.ensures))
    c.in_ok-options.ensures refl
