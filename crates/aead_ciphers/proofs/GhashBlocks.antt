-- Blocks as coefficients: a block is known by its bits, those of a number's big-endian bytes are the number's, and XOR and the
-- product are those of the bits.
use Rattle.std.proofs.Common.{◌≡◌, ℕ, List, [], zero, suc, ◌+◌, ◌*◌, ◌/◌, ◌%◌, ◌^◌, ◌<◌, ◌≤◌, Bool, ◌∷◌, ◌++◌, flat_map, refl, sym, ap, ap₂, ◌∙◌, arith, ◌==◌, zero-add, pow-suc, div-one, bit_xor, pow-add, reverse, length, get_or, map, All, subst, length-append}
use Rattle.std.specs.Int.{bytes_high_first, byte_at, to_be_bytes, w128, from_be_bytes}
use Rattle.std.proofs.lemmas
use lemmas.Nat.{xor_shr, xor_mod, div-mul-add, mod-mul-add, mod_below, mul-add-lt}
use lemmas.List.{reverse-reverse, get_or_default, length-reverse}
use Rattle.aead_ciphers_base.specs
use specs.ByteField.{bits_of, value_of}
use Rattle.aead_ciphers_base.proofs
use proofs.NumberBits.{bit_at-mod, bit_at-shr, value_of-bits_of, bits_of-value_of}
use specs.Polynomial.{field_product, coefficient}
use specs.Bytes.{◌⊕◌}
use Rattle.aead_ciphers.proofs.GhashBits.{bits_high_first, reverse-bits_of, length-bits}
use Rattle.aead_ciphers.specs.Ghash.{block_bits, block_of, ◌•◌, block_taps, IsBlock}
use Rattle.std.proofs.Math.Dec.{lit<}
use Rattle.std.specs.List.{range_with_len}
use lemmas.List.FromFn.{fill_by_all}
use proofs.PolynomialBits.{Series}
use proofs.PolynomialLaws.{times, field_product_is, length-field_product, modulus, same_coefficients}
use lemmas.List.Elements.{All-cons, All-head, All-tail}
use Rattle.aead_ciphers.proofs.ProductLoop.{block_low}

-- the number of bits, the highest first
abbrev pub number : List Bool → ℕ
number bits = value_of (reverse bits)

-- ---- the definitions, by bits the highest first

pub block_bits-is : (b : List ℕ) → block_bits b ≡ flat_map (bits_high_first 8) b
unfolding block_bits
block_bits-is [] = refl
block_bits-is (x ∷ xs) = ap₂ (λ p q. p ++ q) (reverse-bits_of 8 x) (block_bits-is xs)

bits_split : (n s j : ℕ) → j ≤ 8 → bits_high_first j (n / 2 ^ s % 2 ^ 8) ++ bits_high_first s n ≡ bits_high_first (j + s) n
unfolding bits_high_first
bits_split n s zero h = ap (λ k. bits_high_first k n) (sym (zero-add s))
bits_split n s (suc j) h =
    ap₂ (λ x p. (x == 1) ∷ p) (bit_at-mod _ 8 j h ∙ bit_at-shr n s j) (bits_split n s j (omega arith))
    ∙ ap (λ k. bits_high_first k n) (let e : suc (j + s) ≡ suc j + s = omega arith in e)

pub power_256 : (k : ℕ) → 256 ^ k ≡ 2 ^ (8 * k)
power_256 zero = refl
power_256 (suc k) = pow-suc 256 k ∙ ap (λ x. x * 256) (power_256 k) ∙ sym (pow-add 2 (8 * k) 8) ∙ ap (λ x. 2 ^ x) (omega arith)

pub byte_at_is : (k n : ℕ) → byte_at k n ≡ n / 2 ^ (8 * k) % 2 ^ 8
byte_at_is zero n = ap (λ x. x % 256) (sym (div-one n))
byte_at_is (suc k) n = ap (λ x. n / x % 2 ^ 8) (power_256 (suc k))

bytes_bits : (k n : ℕ) → flat_map (bits_high_first 8) (bytes_high_first k n) ≡ bits_high_first (8 * k) n
unfolding bits_high_first
bytes_bits zero n = refl
bytes_bits (suc k) n =
    ap₂ (λ x p. bits_high_first 8 x ++ p) (byte_at_is k n) (bytes_bits k n)
    ∙ bits_split n (8 * k) 8 (omega arith)
    ∙ ap (λ j. bits_high_first j n) (omega arith)

pub block_bits_of_number : (n : ℕ) → block_bits (to_be_bytes w128 n) ≡ bits_high_first 128 n
block_bits_of_number n = block_bits-is _ ∙ bytes_bits 16 n

pub number_of_bits : (n : ℕ) → n < 2 ^ 128 → number (bits_high_first 128 n) ≡ n
number_of_bits n h = ap number (sym (reverse-bits_of 128 n)) ∙ ap value_of (reverse-reverse (bits_of 128 n)) ∙ value_of-bits_of 128 n h

pub product_of_numbers : (a b c : ℕ) → c < 2 ^ 128
    → bits_high_first 128 c ≡ field_product block_taps 128 (bits_high_first 128 a) (bits_high_first 128 b) →
    to_be_bytes w128 c ≡ to_be_bytes w128 a • to_be_bytes w128 b
unfolding ◌•◌ block_of
product_of_numbers a b c below h =
    let bits = ap₂ (field_product block_taps 128) (sym (block_bits_of_number a)) (sym (block_bits_of_number b)) in
    ap (to_be_bytes w128) (sym (number_of_bits c below) ∙ ap number (h ∙ bits))

-- the bytes of an XOR
byte-xor : (k a b : ℕ) → byte_at k (bit_xor a b) ≡ bit_xor (byte_at k a) (byte_at k b)
byte-xor k a b =
    byte_at_is k _
    ∙ ap (λ x. x % 2 ^ 8) (xor_shr a b _)
    ∙ xor_mod _ _ 8
    ∙ ap₂ bit_xor (sym (byte_at_is k a)) (sym (byte_at_is k b))

bytes-xor : (k a b : ℕ) → bytes_high_first k (bit_xor a b) ≡ bytes_high_first k a ⊕ bytes_high_first k b
bytes-xor zero a b = refl
bytes-xor (suc k) a b = ap₂ (λ x xs. x ∷ xs) (byte-xor k a b) (bytes-xor k a b)

pub to_be_bytes-xor : (a b : ℕ) → to_be_bytes w128 (bit_xor a b) ≡ to_be_bytes w128 a ⊕ to_be_bytes w128 b
to_be_bytes-xor a b = bytes-xor 16 a b

-- ---- bytes back from bits

abbrev Byte : ℕ → Type 0
Byte x = x < 256

digit_below : (c x p q r : ℕ) → q ≡ p * c → x < c → r < p → x * p + r < q
digit_below c x p q r e small below = let h = mul-add-lt x p r c small below in omega (arith, h)

-- the number of bytes, the highest first, after the number a
abbrev value : ℕ → List ℕ → ℕ
value a [] = a
value a (x ∷ xs) = value (a * 256 + x) xs

-- a digit x below the number a, above the rest r
digit_up : (a c x p q r : ℕ) → q ≡ p * c → (a * c + x) * p + r ≡ a * q + (x * p + r)
digit_up a c x p q r e = (let h : (a * c + x) * p + r ≡ a * (p * c) + (x * p + r) = omega arith in h) ∙ ap (λ y. a * y + (x * p + r)) (sym e)

value-split : (xs : List ℕ) (a : ℕ) → All Byte xs → (r : ℕ) × (value a xs ≡ a * 256 ^ length xs + r) × (r < 256 ^ length xs)
value-split [] a h = (0, omega arith, lit< tt)
value-split (x ∷ xs) a h =
    let w = value-split xs _ (All-tail Byte x xs h) in
    let small = All-head Byte x xs h in (
      x * 256 ^ length xs + w.0,
      w.1 ∙ digit_up a 256 x _ _ w.0 (pow-suc 256 _),
      digit_below 256 x _ _ w.0 (pow-suc 256 _) small w.2,
    )

byte_of-value : (a x k n r : ℕ) → x < 256 → n ≡ (a * 256 + x) * 256 ^ k + r → r < 256 ^ k → byte_at k n ≡ x
byte_of-value a x k n r small e below =
    byte_at_is k n ∙ ap (λ p. n / p % 256) (sym (power_256 k))
    ∙ ap (λ m. m / 256 ^ k % 256) e ∙ ap (λ m. m % 256) (div-mul-add (a * 256 + x) _ r below) ∙ mod-mul-add a 256 x small

bytes_of-value : (xs : List ℕ) (a : ℕ) → All Byte xs → bytes_high_first (length xs) (value a xs) ≡ xs
bytes_of-value [] a h = refl
bytes_of-value (x ∷ xs) a h =
    let w = value-split xs (a * 256 + x) (All-tail Byte x xs h) in
    ap₂ (λ y ys. y ∷ ys)
    (byte_of-value a x _ _ w.0 (All-head Byte x xs h) w.1 w.2)
    (bytes_of-value xs _ (All-tail Byte x xs h))

pub block_of-bits : (b : List ℕ) → IsBlock b → block_of (block_bits b) ≡ b
unfolding block_of
block_of-bits b is =
    let n = value 0 b in
    let w = value-split b 0 is.bytes in
    let back = ap (λ k. bytes_high_first k n) (sym is.size) ∙ bytes_of-value b 0 is.bytes in
    ap (λ bs. block_of (block_bits bs)) (sym back) ∙ ap block_of (block_bits_of_number n)
    ∙ ap (to_be_bytes w128) (number_of_bits n (omega (arith, w.1, w.2, ap (λ k. 256 ^ k) is.size))) ∙ back

pub same_blocks : (a b : List ℕ) → IsBlock a → IsBlock b → block_bits a ≡ block_bits b → a ≡ b
same_blocks a b is_a is_b e = sym (block_of-bits a is_a) ∙ ap block_of e ∙ block_of-bits b is_b

-- the bytes of a block as a big-endian number
pub from_be_bytes_is : (b : List ℕ) → length b ≡ 16 → from_be_bytes w128 b ≡ value 0 b
from_be_bytes_is b size =
    let e = fill_by_all (λ k. get_or b k 0) b 16 0 size (λ k below. refl) in
    (let h : from_be_bytes w128 b ≡ value 0 (map (λ k. get_or b k 0) (range_with_len 0 16)) = omega arith in h) ∙ ap (value 0) (sym e)

-- ---- bits back from bytes

pub block_bits_of-block : (p : List Bool) → length p ≡ 128 → block_bits (block_of p) ≡ p
unfolding block_of
block_bits_of-block p e =
    block_bits_of_number _ ∙ sym (reverse-bits_of 128 _)
    ∙ ap (λ k. reverse (bits_of k (number p))) (sym (length-reverse p ∙ e)) ∙ ap reverse (bits_of-value_of (reverse p)) ∙ reverse-reverse p

pub bytes-below : (k n : ℕ) → All Byte (bytes_high_first k n)
bytes-below zero n = λ k d below. absurd (omega arith)
bytes-below (suc k) n =
    All-cons Byte _ _ (rw (byte_at_is k n) (mod_below (n / 2 ^ (8 * k)) 256 (lit< tt))) (bytes-below k n)

length-bytes : (k n : ℕ) → length (bytes_high_first k n) ≡ k
length-bytes zero n = refl
length-bytes (suc k) n = ap suc (length-bytes k n)

pub IsBlock-number : (n : ℕ) → IsBlock (to_be_bytes w128 n)
IsBlock-number n = record { size = length-bytes 16 n; bytes = bytes-below 16 n }

pub IsBlock-product : (a b : List ℕ) → IsBlock (a • b)
unfolding ◌•◌ block_of
IsBlock-product a b = IsBlock-number _

pub length-flat : (xs : List ℕ) → length (flat_map (bits_high_first 8) xs) ≡ 8 * length xs
length-flat [] = refl
length-flat (x ∷ xs) =
    length-append _ _ ∙ ap₂ (λ m n. m + n) (length-bits 8 x) (length-flat xs) ∙ omega arith

pub length-block_bits : (b : List ℕ) → length b ≡ 16 → length (block_bits b) ≡ 128
length-block_bits b size = ap length (block_bits-is b) ∙ length-flat b ∙ ap (λ k. 8 * k) size

-- ---- blocks as coefficients

abbrev pub series : List ℕ → Series
series b = coefficient (block_bits b)

abbrev pub block_times : List ℕ → Series → Series
block_times a f = times 127 (modulus block_taps 128) (block_bits a) f

pub same_from_series : (a b : List ℕ) → IsBlock a → IsBlock b → series a ≡ series b → a ≡ b
same_from_series a b is_a is_b e =
    same_blocks a b is_a is_b (same_coefficients (block_bits a) _ (length-block_bits a is_a.size ∙ sym (length-block_bits b is_b.size)) e)

pub series-product : (a b : List ℕ) → length a ≡ 16 → length b ≡ 16 → series (a • b) ≡ block_times a (series b)
unfolding ◌•◌
series-product a b is_a is_b =
    let p = block_bits a in
    let q = block_bits b in
    let lp = length-block_bits a is_a in
    let lq = length-block_bits b is_b in
    ap coefficient (block_bits_of-block (field_product block_taps 128 p q) (length-field_product block_taps 127 block_low p q lp lq))
    ∙ field_product_is block_taps 127 block_low p q lp lq

-- the bytes of the number that bytes were read as
pub to_be_bytes-from_be_bytes : (b : List ℕ) (n : ℕ) → length b ≡ 16 → ((k : ℕ) → k < length b → get_or b k 0 < 256)
    → n ≡ from_be_bytes w128 b → to_be_bytes w128 n ≡ b
to_be_bytes-from_be_bytes b n size small e =
    ap (to_be_bytes w128) (e ∙ from_be_bytes_is b size)
    ∙ ap (λ k. bytes_high_first k (value 0 b)) (sym size)
    ∙ bytes_of-value b 0 (λ k d below. subst (λ x. x < 256) (get_or_default b k 0 d below) (small k below))
