-- For private clauses: what keys are compared by.
use Rattle.std.specs.Prelude.{ℕ, List, Option, Some, None}
use Rattle.unicode_normalization.specs.Forms.{nfc}
use Rattle.mf_tree.specs.declared.message.Key.{Key}
use Rattle.mf_tree.specs.declared.message.Key.TheVariants as Keys

-- the Normalization Form C of a literal, and nothing for `*`
abbrev pub key_value : Key → Option (List ℕ)
key_value Keys.Star = None
key_value (Keys.Literal text) = Some (nfc text)
