-- Keys that are written as text.

use Rattle.std.specs.Prelude.{◌≡◌, ◌==◌, ◌+◌, ◌||◌, ℕ, Bool, List, count_by, length}
use Rattle.std.specs.Char.{is_ascii_alphanumeric, is_ascii_whitespace}

-- whether a byte is one of Base64's characters, among which is the padding (RFC 4648 section 4)
abbrev pub is_in_base64 : ℕ → Bool
is_in_base64 c = (is_ascii_alphanumeric c || c == 43) || (c == 47 || c == 61)

-- these bytes are this many characters that the test accepts, and white space
abbrev pub IsTextOf : (ℕ → Bool) → ℕ → List ℕ → Type 0
IsTextOf is_character n text = (count_by is_character text ≡ n) × (n + count_by is_ascii_whitespace text ≡ length text)
