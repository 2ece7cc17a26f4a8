-- What the words of a line of `aeadrun` represent.
use Rattle.std.specs.Prelude.{◌≡◌, ℕ, ◌%◌, ◌^◌, ◌<◌, ◌≤◌, ◌==◌, if◌then◌else◌, ◌⊎◌, List, [], ◌∷◌, ◌++◌, length, codes, Option, Some, None}
use Rattle.std.specs.List.{AllPass}
use Rattle.std.specs.Result.{result_ok}
use Rattle.std.specs.Str.Parse.{IsNumeral, digits_value}
use Rattle.hex.specs.Hex.{decode_of, encode_lower, is_hex_digit}

-- a word that represents bytes: `-`, or a positive even number of hex digits in either case
abbrev pub IsBytesWord : List ℕ → Type 0
IsBytesWord word = (word ≡ codes "-") ⊎ ((0 < length word) × (length word % 2 ≡ 0) × AllPass is_hex_digit word)

-- the bytes that a word represents: none for `-` (45), else one for each two hex digits, the high four bits first
abbrev pub bytes_of_word : List ℕ → Option (List ℕ)
bytes_of_word [] = None
bytes_of_word (c ∷ []) = if c == 45 then Some [] else None
bytes_of_word (c ∷ d ∷ rest) = result_ok (decode_of (c ∷ d ∷ rest))

-- the word that represents bytes: `-` for none, else two lower case hex digits for each
abbrev pub word_of_bytes : List ℕ → List ℕ
word_of_bytes [] = codes "-"
word_of_bytes (byte ∷ rest) = encode_lower (byte ∷ rest)

-- a word that represents a number: 1 to 20 decimal digits of a value below 2^64
pub record IsNumberWord (word : List ℕ) : Type 0 where
  pub digits : IsNumeral 10 word
  pub short : length word ≤ 20
  pub fits : digits_value 10 word < 2 ^ 64

-- the answer `ok FIRST SECOND`
abbrev pub ok_line : List ℕ → List ℕ → List ℕ
ok_line first second = codes "ok " ++ (word_of_bytes first ++ (codes " " ++ word_of_bytes second))
