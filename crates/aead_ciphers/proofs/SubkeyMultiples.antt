-- The multiples of a block by the powers of u, and the loop of `product` over them.
-- The product is Horner's rule on coefficients. Multiple k is the action of u^k on the hash subkey, and by the loop's invariant
-- the sum in lane j is the action of the first bits of word j of the block.
use Rattle.std.proofs.Common.{◌≡◌, ℕ, zero, suc, ◌+◌, ◌-◌, ◌/◌, ◌*◌, ◌%◌, ◌^◌, ◌<◌, ◌≤◌, Bool, true, false, List, ◌∷◌, ◌++◌, length, replicate, sym, ap, ap₂, subst, ◌∙◌, arith, ◌==◌, pow-suc, length-append, bit_xor, if◌then◌else◌, below_more, pow_pos, reverse}
use Rattle.std.specs.Int.{bit_at, to_be_bytes, w128}
use Rattle.std.proofs.lemmas
use lemmas.List.{length-replicate}
use lemmas.Nat.{div-mul-add, mod-pow-add, mod_below, mul-mod_first}
use lemmas.Nat.Bits.{bit_at_cat_high}
use Rattle.aead_ciphers_base.specs
use specs.ByteField.{value_of}
use specs.Polynomial.{coefficient}
use Rattle.aead_ciphers_base.proofs
use proofs.NumberBits.{bit_at-mod, bit_at-shr}
use proofs.PolynomialBits.{Series, add, add_assoc, add_none, none, scale}
use proofs.PolynomialLaws.{horner, horner_none, horner_push, mul_x, mul_x-none, raise, times, field_product_is, length-field_product, modulus, same_coefficients}
use Rattle.aead_ciphers.specs.Ghash.{block_of, block_taps, ◌•◌}
use Rattle.aead_ciphers.specs.Multiples.{monomial_block}
use Rattle.aead_ciphers.proofs.GhashBits.{coefficients, coefficients-xor, coefficients-zero, length-bits, bits_high_first}
use Rattle.aead_ciphers.proofs.GhashBlocks.{series, same_from_series, series-product, IsBlock-number, IsBlock-product, block_bits_of-block, block_bits_of_number, number_of_bits, product_of_numbers, number}
use Rattle.aead_ciphers.proofs.ProductLoop.{block_low, multiple_is, next_multiple, zeros_end}

-- ---- the multiples

-- u^k times f
abbrev pub raised : ℕ → Series → Series
raised k f = raise 127 (modulus block_taps 128) k f

times_monomial : (top : ℕ) (m : Series) (k n : ℕ) (f : Series) → times top m (replicate k false ++ true ∷ replicate n false) f ≡ raise top m k f
times_monomial top m zero n f =
    ap (λ s. add f (mul_x top m s)) (horner_none top m (length (replicate n false)) (coefficient (replicate n false)) f (zeros_end n))
    ∙ ap (add f) (mul_x-none top m) ∙ add_none f
times_monomial top m (suc k) n f = ap (mul_x top m) (times_monomial top m k n f)

length-monomial : (k : ℕ) → k < 128 → length (replicate k false ++ true ∷ replicate (127 - k) false) ≡ 128
length-monomial k within =
    length-append _ _
    ∙ ap₂ (λ m n. m + suc n) (length-replicate k false) (length-replicate (127 - k) false)
    ∙ omega arith

pub series-monomial : (k : ℕ) (h : List ℕ) → k < 128 → length h ≡ 16 → series (monomial_block k • h) ≡ raised k (series h)
unfolding block_of
series-monomial k h within size =
    let bits = replicate k false ++ true ∷ replicate (127 - k) false in
    series-product _ h (IsBlock-number (value_of (reverse bits))).size size
    ∙ ap (λ p. times 127 (modulus block_taps 128) p (series h)) (block_bits_of-block bits (length-monomial k within))
    ∙ times_monomial 127 (modulus block_taps 128) k (127 - k) (series h)

series-number : (n : ℕ) → series (to_be_bytes w128 n) ≡ coefficients 128 n
series-number n = ap coefficient (block_bits_of_number n)

-- the coefficients of v are those of u^k times the block of h
abbrev pub IsRaised : ℕ → ℕ → ℕ → Type 0
IsRaised h k v = coefficients 128 v ≡ raised k (coefficients 128 h)

-- v is the number of the product of u^k and the block of h
pub record IsMultiple (h k v : ℕ) : Type 0 where
  pub fits : v < 2 ^ 128
  pub raised : IsRaised h k v

pub raised_next : (h k v : ℕ) → v < 2 ^ 128 → IsRaised h k v → IsRaised h (k + 1) (next_multiple v)
raised_next h k v below at =
    let e : suc k ≡ k + 1 = omega arith in
    multiple_is v below ∙ ap (mul_x 127 (modulus block_taps 128)) at ∙ ap (λ n. raised n (coefficients 128 h)) e

-- one entry more
pub multiples_more : (h k v : ℕ) (old new : ℕ → ℕ) → IsMultiple h k v → new k ≡ v → ((j : ℕ) → j < k → new j ≡ old j) →
    ((j : ℕ) → j < k → IsMultiple h j (old j)) →
    (j : ℕ) → j < k + 1 → IsMultiple h j (new j)
multiples_more h k v old new here is kept before =
    below_more (λ (j : ℕ). IsMultiple h j _) k
    (λ j below. subst (IsMultiple h j) (sym (kept j below)) (before j below))
    (subst (IsMultiple h k) (sym is) here)

pub first_multiple : (h v : ℕ) → h < 2 ^ 128 → IsMultiple h 0 v → v ≡ h
first_multiple h v below at =
    sym (number_of_bits v at.fits)
    ∙ ap number (same_coefficients (bits_high_first 128 v) _ (length-bits 128 v ∙ sym (length-bits 128 h)) at.raised)
    ∙ number_of_bits h below

pub block_of-multiple : (h k v : ℕ) → k < 128 → IsMultiple h k v → to_be_bytes w128 v ≡ monomial_block k • to_be_bytes w128 h
block_of-multiple h k v within at =
    let is_h = IsBlock-number h in
    same_from_series _ _ (IsBlock-number v) (IsBlock-product (monomial_block k) _)
    (series-number v ∙ at.raised ∙ ap (raised k) (sym (series-number h)) ∙ sym (series-monomial k _ within is_h.size))

pub raised_of-block : (h k v : ℕ) → k < 128 → to_be_bytes w128 v ≡ monomial_block k • to_be_bytes w128 h → IsRaised h k v
raised_of-block h k v within e =
    sym (series-number v) ∙ ap series e ∙ series-monomial k _ within (IsBlock-number h).size ∙ ap (raised k) (series-number h)

-- ---- the bits of a, shifted to the left

bit_of-modulo : (n top : ℕ) → n % 2 ^ suc top / 2 ^ top ≡ bit_at n top
bit_of-modulo n top =
    let e : suc top ≡ 1 + top = omega arith in
    ap (λ w. n % 2 ^ w / 2 ^ top) e
    ∙ ap (λ m. m / 2 ^ top) (mod-pow-add n 1 top)
    ∙ div-mul-add _ _ (n % 2 ^ top) (mod_below n _ (pow_pos top))

top_bit : (a top turn : ℕ) → turn ≤ top → a * 2 ^ turn % 2 ^ suc top / 2 ^ top ≡ bit_at a (top - turn)
top_bit a top turn within =
    let e : a * 2 ^ turn ≡ a * 2 ^ turn + 0 = omega arith in
    bit_of-modulo _ top ∙ ap (λ n. bit_at n top) e ∙ bit_at_cat_high a turn 0 top (pow_pos turn) within

shifted_next : (a width turn : ℕ) → a * 2 ^ turn % 2 ^ width * 2 % 2 ^ width ≡ a * 2 ^ (turn + 1) % 2 ^ width
shifted_next a width turn =
    let e : a * 2 ^ turn * 2 ≡ a * (2 ^ turn * 2) = omega arith in
    let s : suc turn ≡ turn + 1 = omega arith in
    mul-mod_first _ 2 _
    ∙ ap (λ n. n % 2 ^ width) (e ∙ ap (λ n. a * n) (sym (pow-suc 2 turn) ∙ ap (λ n. 2 ^ n) s))

coefficient-bits : (n a k : ℕ) → k < n → coefficient (bits_high_first n a) k ≡ (bit_at a (n - 1 - k) == 1)
unfolding bits_high_first
coefficient-bits (suc n) a zero within = let e : n ≡ suc n - 1 - 0 = omega arith in ap (λ i. bit_at a i == 1) e
coefficient-bits (suc n) a (suc k) within =
    let e : n - 1 - k ≡ suc n - 1 - suc k = omega arith in
    coefficient-bits n a k (omega arith) ∙ ap (λ i. bit_at a i == 1) e
coefficient-bits _ a k within = absurd (omega arith)

-- bit 31 - i of word j
word_bit : (a j i : ℕ) → j < 4 → i < 32 → bit_at (a / 2 ^ (96 - 32 * j) % 2 ^ 32) (31 - i) ≡ bit_at a (127 - (32 * j + i))
word_bit a j i within inner =
    let e : 31 - i + (96 - 32 * j) ≡ 127 - (32 * j + i) = omega arith in
    bit_at-mod _ 32 (31 - i) (omega arith) ∙ bit_at-shr a _ _ ∙ ap (bit_at a) e

-- ---- the loop of `product`

-- the product by the first `count` bits of a
abbrev part : ℕ → ℕ → ℕ → Series
part a h count = horner 127 (modulus block_taps 128) count (coefficients 128 a) (coefficients 128 h)

-- the product by `count` coefficients of c, those of u^from and on
abbrev pub stretch : Series → Series → ℕ → ℕ → Series
stretch c f from zero = none
stretch c f from (suc count) = add (stretch c f from count) (scale (c (from + count)) (raised (from + count) f))

-- sum is the product by `count` bits of a, from bit `from` on
abbrev pub IsStretch : ℕ → ℕ → ℕ → ℕ → ℕ → Type 0
IsStretch a h from count sum = coefficients 128 sum ≡ stretch (coefficients 128 a) (coefficients 128 h) from count

part-stretch : (a h from count : ℕ) → part a h (from + count) ≡ add (part a h from) (stretch (coefficients 128 a) (coefficients 128 h) from count)
part-stretch a h from zero = let e : from + 0 ≡ from = omega arith in ap (part a h) e ∙ sym (add_none (part a h from))
part-stretch a h from (suc count) =
    let e : from + suc count ≡ suc (from + count) = omega arith in
    let more = scale (coefficients 128 a _) (raised (from + count) _) in
    ap (part a h) e
    ∙ horner_push 127 (modulus block_taps 128) (from + count) (coefficients 128 a) (coefficients 128 h)
    ∙ ap (λ s. add s more) (part-stretch a h from count)
    ∙ add_assoc (part a h from) (stretch (coefficients 128 a) _ from count) more

coefficients-chosen : (b : Bool) (s v : ℕ) → coefficients 128 (if b then bit_xor s v else s) ≡ add (coefficients 128 s) (scale b (coefficients 128 v))
coefficients-chosen false s v = sym (add_none (coefficients 128 s))
coefficients-chosen true s v = coefficients-xor 128 s v

pub stretch_start : (a h from : ℕ) → IsStretch a h from 0 0
stretch_start a h from = coefficients-zero 128

-- a turn in lane j, where `bits` has word j of a moved to the left by i
pub stretch_next : (a h j i bits sum v : ℕ) → j < 4 → i < 32 → bits ≡ a / 2 ^ (96 - 32 * j) % 2 ^ 32 * 2 ^ i % 2 ^ 32 → IsRaised h (32 * j + i) v →
    IsStretch a h (32 * j) i sum → IsStretch a h (32 * j) (i + 1) (if bits / 2 ^ 31 == 1 then bit_xor sum v else sum)
stretch_next a h j i bits sum v within inner left is_v at =
    let bit =
    ap (λ n. n / 2 ^ 31) left ∙ top_bit _ 31 i (omega arith) ∙ word_bit a j i within inner in
    let chosen =
    ap (λ x. x == 1) bit ∙ sym (coefficient-bits 128 a _ (omega arith)) in
    let s : suc i ≡ i + 1 = omega arith in
    coefficients-chosen _ sum v
    ∙ ap₂ add at (ap₂ (λ b f. scale b f) chosen is_v)
    ∙ ap (stretch (coefficients 128 a) _ _) s

-- a word moved to the left by one more
pub bits_next : (word i bits next : ℕ) → bits ≡ word * 2 ^ i % 2 ^ 32 → next ≡ (bits + bits) % 2 ^ 32 → next ≡ word * 2 ^ (i + 1) % 2 ^ 32
bits_next word i bits next left is =
    let twice : bits + bits ≡ bits * 2 = omega arith in
    is ∙ ap (λ n. n % 2 ^ 32) (twice ∙ ap (λ n. n * 2) left) ∙ shifted_next word 32 i

word_more : (a h from sum next : ℕ) → coefficients 128 sum ≡ part a h from → IsStretch a h from 32 next →
    coefficients 128 (bit_xor sum next) ≡ part a h (from + 32)
word_more a h from sum next before at = coefficients-xor 128 sum next ∙ ap₂ add before at ∙ sym (part-stretch a h from 32)

-- the four lanes' sums together are the product
pub product_end : (a h first second third fourth n : ℕ) → n < 2 ^ 128 → n ≡ bit_xor (bit_xor (bit_xor (bit_xor 0 first) second) third) fourth →
    IsStretch a h 0 32 first → IsStretch a h 32 32 second → IsStretch a h 64 32 third → IsStretch a h 96 32 fourth →
    to_be_bytes w128 n ≡ to_be_bytes w128 a • to_be_bytes w128 h
product_end a h first second third fourth n below is one two three four =
    let la = length-bits 128 a in
    let lh = length-bits 128 h in
    let none_yet = coefficients-zero 128 in
    let whole = word_more a h 96 _ fourth
    (word_more a h 64 _ third (word_more a h 32 _ second (word_more a h 0 0 first none_yet one) two) three) four in
    product_of_numbers a h n below
    (same_coefficients _ _
    (length-bits 128 n ∙ sym (length-field_product block_taps 127 block_low _ _ la lh))
    (ap (coefficients 128) is ∙ whole ∙ ap (part a h) (sym la)
    ∙ sym (field_product_is block_taps 127 block_low _ _ la lh)))
