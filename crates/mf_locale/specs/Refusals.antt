-- Why a text is no tag.
use Rattle.mf_locale.specs.declared.error.LocaleError.{LocaleError}
use Rattle.mf_locale.specs.declared.error.LocaleError.TheVariants.{BadTag, BadField, BadRule, OutOfMemory}

-- the text is no tag, or there is no memory; nothing else comes of a text
abbrev pub IsOfTag : LocaleError → Type 0
IsOfTag BadTag = Unit {0}
IsOfTag (BadField field) = ⊥
IsOfTag (BadRule field number) = ⊥
IsOfTag OutOfMemory = Unit {0}
