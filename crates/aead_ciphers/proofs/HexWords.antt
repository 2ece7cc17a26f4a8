-- The words of `aeadrun` that stand for bytes.
use Rattle.std.proofs.Common.{◌≡◌, ◌≢◌, ℕ, ◌<◌, ◌≤◌, inl, inr, List, [], ◌∷◌, length, Some, None, Ok, Err, refl, sym, ap, ◌∙◌, arith, codes}
use Rattle.std.specs.Result.{result_ok}
use Rattle.std.proofs.lemmas.Bool.Decides.{nat_tests}
use Rattle.hex.specs
use specs.Hex.{IsBytes, decode_of, encode_lower, lower_digits}
use specs.declared.error.FromHexError.{FromHexError}
use Rattle.hex.proofs.HexLemmas.{decode_of-digits, decode_of-encode_lower, decode_of-ok, length-encode_with}
use Rattle.aead_ciphers.specs.Words.{IsBytesWord, bytes_of_word}

-- a word of two characters or more stands for what its digits decode to
bytes_of_word-long : (word : List ℕ) → 2 ≤ length word → bytes_of_word word ≡ result_ok (decode_of word)
bytes_of_word-long (c ∷ d ∷ rest) h = refl
bytes_of_word-long _ h = absurd (omega arith)

-- a word that decodes stands for its bytes
pub bytes_of_word-decoded : (word bytes : List ℕ) → 0 < length word → decode_of word ≡ Ok bytes → bytes_of_word word ≡ Some bytes
bytes_of_word-decoded word bytes some h =
    let even = (decode_of-ok word bytes h).0 in
    bytes_of_word-long word (omega (arith, even)) ∙ ap result_ok h

-- and is a word for bytes
pub IsBytesWord-decoded : (word bytes : List ℕ) → 0 < length word → decode_of word ≡ Ok bytes → IsBytesWord word
IsBytesWord-decoded word bytes some h =
    let digits = decode_of-ok word bytes h in
    inr (some, digits.0, digits.1)

-- a word that doesn't decode stands for nothing, but for the word of no bytes
pub bytes_of_word-undecoded : (word : List ℕ) (e : FromHexError) → word ≢ codes "-" → decode_of word ≡ Err e → bytes_of_word word ≡ None
bytes_of_word-undecoded [] e other h = refl
bytes_of_word-undecoded (c ∷ []) e other h =
    let hyphen : c ≢ 45 = λ same. other (ap (λ x. x ∷ []) same) in
    grind (arith, nat_tests)
bytes_of_word-undecoded (c ∷ d ∷ rest) e other h = ap result_ok h

-- and is no word for bytes
pub IsBytesWord-undecoded : (word : List ℕ) (e : FromHexError) → word ≢ codes "-" → decode_of word ≡ Err e → IsBytesWord word → ⊥
IsBytesWord-undecoded word e other h (inl hyphen) = other hyphen
IsBytesWord-undecoded word e other h (inr digits) =
    let decoded = decode_of-digits word digits.1 digits.2 in
    cc (sym h ∙ decoded.1)

-- bytes read back from their lower case digits
pub bytes_of_word-encode_lower : (bytes : List ℕ) → 0 < length bytes → IsBytes bytes → bytes_of_word (encode_lower bytes) ≡ Some bytes
bytes_of_word-encode_lower bytes some h =
    let twice = length-encode_with lower_digits bytes in
    bytes_of_word-decoded _ bytes (omega (arith, twice)) (decode_of-encode_lower bytes h)

-- a word that is decoded
pub ruleset decoded = (bytes_of_word-decoded, IsBytesWord-decoded)
