use Rattle.std.proofs.Common.{◌≡◌, ◌∙◌, ◌⊎◌, inl, inr, ⊎_elim, Result, Ok, Err, OnErr, OnOk, Some, None, ap, subst, sym}
use Rattle.std.proofs.lemmas.Result.{on_err_weaker, on_ok_weaker}
use Rattle.std.specs.Option.{option_copied}
use Rattle.std.specs.Prelude.{slice_get}
use Rattle.mf_flight.specs.Flights.{answer_to, slot_of, Puts}
use Rattle.mf_flight.specs.Slots.{asked, plan_of}
use Rattle.mf_flight.specs.declared.flights.Asked.TheVariants.{Claimed}
use Rattle.mf_hub.specs.Kept.{slot}
use Rattle.mf_hub.proofs.Compiled.{ends_are, ends_missed, keeps_found}
use Rattle.mf_hub.proofs.compiling.plan_among.Goals as goal

either : {T E : Type 0} {P Q : Type 0} (result : Result T E) → OnOk result P → OnErr result Q → P ⊎ Q
either (Ok value) ok err = inl ok
either (Err error) ok err = inr err

-- What is known of the message and its ticket.
module _ (c : goal.After-compile_claimed) where
  none : plan_of (slot c.args.edition.now c.args.flights.now c.args.index).state ≡ None
  none = subst (λ e. plan_of (slot_of c.args.flights.now e c.args.index).state ≡ None) c.number-number.ensures
      (sym c.get.ensures ∙ ap option_copied c.in_default.is)

  asks : Puts c.args.flights.now c.ask.new.self c.args.edition.now.number c.args.index (asked (slot c.args.edition.now c.args.flights.now c.args.index))
  asks = subst (λ e. Puts c.args.flights.now c.ask.new.self e c.args.index (asked (slot_of c.args.flights.now e c.args.index))) c.number-number.ensures
      c.in_ok-ticket.ensures.ok

  told : Claimed c.in-Claimed.ticket
      ≡ answer_to (slot c.args.edition.now c.args.flights.now c.args.index).state c.args.edition.now.number c.args.index
  told = subst (λ e. Claimed c.in-Claimed.ticket ≡ answer_to (slot_of c.args.flights.now e c.args.index).state e c.args.index) c.number-number.ensures
      (sym c.in-Claimed.is ∙ c.in_ok-ticket.ensures.answer)

  there : slice_get c.args.edition.now.items c.args.index ≡ Some c.in-Some-item.item.now
  there = sym c.item.ensures ∙ ap option_copied c.in-Some-item.is

pub returns-clause-kept : goal.returns-clause-kept
returns-clause-kept c =
    ends_are c.args.edition.now c.args.flights.now c.ask.new.self c.compile_claimed.new.flights c.args.index c.in-Claimed.ticket _
    c.requires.kept (none c) (asks c) (told c) c.in-Some-item.item.now (there c) c.source.ensures.characters c.requires.inside
    (⊎_elim inl (λ ends. ends) (either c.compile_claimed.result c.compile_claimed.ensures.ok c.compile_claimed.ensures.err))

pub returns-clause-ok : goal.returns-clause-ok
returns-clause-ok c =
    on_ok_weaker c.compile_claimed.result
    (keeps_found c.args.edition.now c.args.flights.now c.ask.new.self c.compile_claimed.new.flights c.args.index c.in-Claimed.ticket _
    c.requires.kept (none c) (asks c) (told c) c.in-Some-item.item.now (there c) c.source.ensures.characters c.requires.inside)
    c.compile_claimed.ensures.ok

pub returns-clause-err : goal.returns-clause-err
returns-clause-err c =
    on_err_weaker c.compile_claimed.result
    (ends_missed c.args.edition.now c.args.flights.now c.ask.new.self c.compile_claimed.new.flights c.args.index c.in-Claimed.ticket _
    c.requires.kept (none c) (asks c) (told c) c.in-Some-item.item.now (there c) c.source.ensures.characters c.requires.inside)
    c.compile_claimed.ensures.err
