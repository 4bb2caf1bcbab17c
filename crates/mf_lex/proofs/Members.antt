-- The characters beside a name are no part of it.
use Rattle.std.proofs.Common.{◌≡◌, false, refl}
use Rattle.mf_text.specs.Characters.{is_name_char, is_name_start}

-- what may stand behind a name and is part of none: `:`, `=`, `|`, `/`, `}`; and what stands before one: `$`, `@`, `#`, `{`, `*`
pub colon_is_no_name_char : is_name_char 0x3A ≡ false
unfolding is_name_char is_name_start
colon_is_no_name_char = refl

pub equals_is_no_name_char : is_name_char 0x3D ≡ false
unfolding is_name_char is_name_start
equals_is_no_name_char = refl

pub bar_is_no_name_char : is_name_char 0x7C ≡ false
unfolding is_name_char is_name_start
bar_is_no_name_char = refl

pub slash_is_no_name_char : is_name_char 0x2F ≡ false
unfolding is_name_char is_name_start
slash_is_no_name_char = refl

pub right_brace_is_no_name_char : is_name_char 0x7D ≡ false
unfolding is_name_char is_name_start
right_brace_is_no_name_char = refl

pub dollar_is_no_name_char : is_name_char 0x24 ≡ false
unfolding is_name_char is_name_start
dollar_is_no_name_char = refl

pub at_is_no_name_char : is_name_char 0x40 ≡ false
unfolding is_name_char is_name_start
at_is_no_name_char = refl

pub hash_is_no_name_char : is_name_char 0x23 ≡ false
unfolding is_name_char is_name_start
hash_is_no_name_char = refl

pub left_brace_is_no_name_char : is_name_char 0x7B ≡ false
unfolding is_name_char is_name_start
left_brace_is_no_name_char = refl

pub star_is_no_name_char : is_name_char 0x2A ≡ false
unfolding is_name_char is_name_start
star_is_no_name_char = refl
