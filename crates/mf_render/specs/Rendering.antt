-- What formatting a plan promises.
use Rattle.std.specs.Prelude.{◌≡◌, ◌<◌, ◌-◌, ◌^◌, ℕ, List, length, min, encode_utf8_all}
use Rattle.mf_text.specs.declared.arguments.Argued.{Argued}
use Rattle.mf_edition.specs.Edition.{EditionState}
use Rattle.mf_edition.specs.Records.{place_for}
use Rattle.mf_parts.specs.Joined.{text_of}
use Rattle.mf_plan.specs.Plans.{compilation, CompilesTo}
use Rattle.mf_plan.specs.declared.plan.Plan.{Plan}
use Rattle.mf_answer.specs.Answers.{functions_of}
use Rattle.mf_answer.specs.Messages.{Shown, Shows}
use Rattle.mf_render.specs.declared.error.RenderError.{RenderError}
use Rattle.mf_render.specs.declared.error.RenderError.TheVariants.{OutOfMemory, TooLong}

-- a plan is that of some source
pub record IsPlan (plan : Plan) : Type 0 where
  pub source : List ℕ
  pub compiles : CompilesTo source plan

-- what a plan says is shown so by an edition, with the record that speaks for a tag
abbrev pub Renders : EditionState → List ℕ → List (List ℕ × Argued) → Plan → Shown → Type 0
Renders edition tag arguments plan shown =
    Shows (place_for edition.records tag) (functions_of edition (place_for edition.records tag)) arguments (compilation plan) shown

-- the text of what would be shown has so many bytes, which are more than a formatted text may have; more than 2^64 - 1 count as
-- that
pub record IsTooLong (edition : EditionState) (tag : List ℕ) (arguments : List (List ℕ × Argued)) (plan : Plan) (bytes : ℕ) : Type 0 where
  pub shown : Shown
  pub renders : Renders edition tag arguments plan shown
  pub many : 2 ^ 24 < length (encode_utf8_all (text_of shown.parts))
  pub bytes_are : bytes ≡ min (length (encode_utf8_all (text_of shown.parts))) (2 ^ 64 - 1)

-- why a message isn't formatted; want of memory is free
abbrev pub IsRefusal : EditionState → List ℕ → List (List ℕ × Argued) → Plan → RenderError → Type 0
IsRefusal edition tag arguments plan (TooLong bytes) = IsTooLong edition tag arguments plan bytes
IsRefusal edition tag arguments plan OutOfMemory = Unit {0}
