use Rattle.std.proofs.Common.{◌≡◌, ◌≢◌, ℕ, Bool, true, false, List, Ok, subst}
use Rattle.std.specs.Prelude.{IfNone, IfSome}
use Rattle.std.proofs.lemmas.Result.{IfOk-weaker}
use Rattle.mf_transcript.specs.Asked.{request_of}
use Rattle.mf_wire.specs.Replies.{memory_line}
use Rattle.mf_wire.specs.declared.request.Request.TheVariants as request
use Rattle.mf_history.specs.Places.{IsAcceptedAt, IsRefusedFrom, Reads}
use Rattle.mf_history.proofs.Publishing.{accepted_goes, publication_stuck, refused_goes}
use Rattle.mf_history.proofs.publication.publish.Goals as goal

pub returns-in-Some : goal.returns-in-Some
returns-in-Some c = λ most line asked loud before stands.
    accepted_goes most c.args.log.now c.args.caller line c.args.said.now c.args.change.now asked c.args.place.now c.go_to.new.place before stands
    c.in-Some.k
    (subst (λ found. IfSome found (IsAcceptedAt c.args.log.now c.args.caller c.args.place.now c.args.change.now c.args.said.now)) c.in-Some.is c.in_ok-k.ensures.some)
    c.in_ok-go_to.ensures.moves c.in_ok-go_to.ensures.there

pub returns : goal.returns
returns c = IfOk-weaker c.refused.result _ _ (λ fits refused most line asked loud. by most line asked loud fits (refused c.args.change.now c.size.ensures.size)) c.refused.ensures
  where
    by : (most : ℕ) (line : List ℕ) → request_of line ≡ Ok (request.Publish c.args.change.now) → c.args.said.now ≢ memory_line
        → (fits : Bool) → IsRefusedFrom c.args.log.now c.args.change.now c.args.said.now c.args.place.now c.refused.new.place fits
        → Reads most c.args.log.now c.args.caller line c.args.said.now c.args.place.now c.refused.new.place fits
    by most line asked loud true is before stands =
        refused_goes most c.args.log.now c.args.caller line c.args.said.now c.args.change.now asked c.args.place.now c.refused.new.place before stands is.0 is.1
    by most line asked loud false none before stands =
        publication_stuck most c.args.log.now c.args.caller line c.args.said.now c.args.change.now asked c.args.place.now c.refused.new.place before stands loud
        (subst (λ found. IfNone found ((k : ℕ) → IsAcceptedAt c.args.log.now c.args.caller c.args.place.now c.args.change.now c.args.said.now k → ⊥)) c.in_default.is c.in_ok-k.ensures.none)
        none
