-- Oddities of a passphrase.

use Rattle.std.specs.Prelude.{◌∷◌, ◌||◌, ℕ, Bool, List, [], nat_eq}
use Rattle.std.specs.List.{starts_with}

-- whether a text begins with a byte order mark of UTF-8 or of UTF-16 (The Unicode Standard, section 23.8)
abbrev pub has_byte_order_mark : List ℕ → Bool
has_byte_order_mark text = starts_with nat_eq text (239 ∷ 187 ∷ 191 ∷ [])
    || (starts_with nat_eq text (255 ∷ 254 ∷ []) || starts_with nat_eq text (254 ∷ 255 ∷ []))
