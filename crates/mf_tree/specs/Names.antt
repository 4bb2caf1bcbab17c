-- The name that is spelled so.
use Rattle.std.specs.Prelude.{ℕ, List, refl}
use Rattle.unicode_normalization.specs.Forms.{nfc}
use Rattle.mf_tree.specs.declared.name.Name.{Name}

abbrev pub named : List ℕ → Name
named spelled = record { spelled = spelled; value = nfc spelled; in_nfc = refl }
