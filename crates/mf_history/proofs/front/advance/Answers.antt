use Rattle.std.proofs.Common.{arith, ◌≡◌, ◌∙◌, ◌+◌, take, ap, sym, subst}
use Rattle.mf_edition.specs.Edition.{next_edition, HasRoom}
use Rattle.mf_edition.specs.Sizes.{used_by}
use Rattle.mf_history.specs.declared.front.Front.{Front}
use Rattle.mf_history.proofs.Editions.{entry_found, front_next, has_room, used_fits}
use Rattle.mf_history.proofs.front.advance.Goals as goal

pub advance-requires : goal.advance-requires
advance-requires c =
    let at = entry_found c.args.log.now c.number.result c.args.front.now.edition.number c.get.result c.in-Some.entry c.get.ensures c.in-Some.is c.number.ensures in
    subst (λ (f : Front). HasRoom f.edition c.in-Some.entry.now.change) (sym c.requires.front.is)
    (has_room c.args.log.now c.args.front.now.edition.number c.in-Some.entry.now at c.requires.log c.requires.more)

pub overflow_add-front : goal.overflow_add-front
overflow_add-front c =
    let at = entry_found c.args.log.now c.number.result c.args.front.now.edition.number c.get.result c.in-Some.entry c.get.ensures c.in-Some.is c.number.ensures in
    let used : c.args.front.now.used ≡ used_by (take c.args.front.now.edition.number c.args.log.now) = ap (λ (f : Front). f.used) c.requires.front.is in
    omega (arith, used, c.size-size.ensures.size, used_fits c.args.log.now c.args.front.now.edition.number c.in-Some.entry.now at c.requires.log)

pub returns : goal.returns
returns c =
    let at = entry_found c.args.log.now c.number.result c.args.front.now.edition.number c.get.result c.in-Some.entry c.get.ensures c.in-Some.is c.number.ensures in
    let used : c.args.front.now.used ≡ used_by (take c.args.front.now.edition.number c.args.log.now) = ap (λ (f : Front). f.used) c.requires.front.is in
    record {
      is = front_next c.args.log.now c.args.front.now.edition.number c.in-Some.entry.now at c.advance.new.self (c.args.front.now.used + c.size-size.result)
          (c.in_ok-advance.ensures.ok ∙ ap (λ (f : Front). next_edition f.edition c.in-Some.entry.now.change) c.requires.front.is)
          (omega (arith, used, c.size-size.ensures.size));
    }
