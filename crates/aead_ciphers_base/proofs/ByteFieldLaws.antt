-- The laws of the bytes as a field; and the product by eight doublings of numbers, which computes some thirty times faster, and
-- the way to use it in a computed test.
use Rattle.std.proofs.Common.{◌≡◌, ℕ, zero, suc, ◌*◌, ◌/◌, ◌%◌, ◌^◌, ◌<◌, true, List, [], ◌∷◌, length, refl, sym, ap, ◌∙◌, arith, bit_xor, unwrap_or, ◌==◌, eqb-true, eq-eqb, Bool, ap₂, if◌then◌else◌, pow-suc}
use Rattle.std.proofs.lemmas
use lemmas.Bool.{false_from_ne_true}
use lemmas.Nat.{xor_lt}
use Rattle.aead_ciphers_base.specs
use specs.Polynomial.{coefficient, field_product, polynomial_product, remainder}
use specs.ByteField.{bits_of, value_of, mul8, inv, affine, sbox}
use Rattle.aead_ciphers_base.proofs
use proofs.PolynomialBits.{Series, add, same_series}
use proofs.PolynomialSums.{coefficient-polynomial_sum}
use proofs.PolynomialLaws.{AllBelow, modulus, one, times, times_swap, times_one, horner-add, same_coefficients, length-field_product, field_product_is}
use proofs.NumberBits.{bits_of-xor, bits_of-value_of, value_of-bits_of, value_of-lt, IsAdditive, all_below, same_below, find_first, IsAdditive_zero, bits_of-mod}

-- `unfolding field` lets `refl` compute in the field
unfoldable pub field : Unit {0}
unfolding field_product polynomial_product remainder mul8 inv affine sbox
field = tt

abbrev taps : List ℕ
taps = 0 ∷ 1 ∷ 3 ∷ 4 ∷ []

low : AllBelow 8 taps
low = omega arith

-- ---- bytes as coefficients

byte_bits : ℕ → List Bool
byte_bits x = bits_of 8 x

abbrev series : ℕ → Series
series x = coefficient (byte_bits x)

abbrev byte_times : ℕ → Series → Series
byte_times x f = times 7 (modulus taps 8) (byte_bits x) f

length-product : (x y : ℕ) → length (field_product taps 8 (byte_bits x) (byte_bits y)) ≡ 8
unfolding byte_bits
length-product x y = length-field_product taps 7 low (bits_of 8 x) (bits_of 8 y) refl refl

mul8_lt : (x y : ℕ) → mul8 x y < 256
unfolding mul8 byte_bits
mul8_lt x y = rw (length-product x y) at (value_of-lt (field_product taps 8 (bits_of 8 x) (bits_of 8 y)))

same_from_series : (x y : ℕ) → x < 256 → y < 256 → series x ≡ series y → x ≡ y
unfolding byte_bits
same_from_series x y hx hy e =
    sym (value_of-bits_of 8 x hx) ∙ ap value_of (same_coefficients (bits_of 8 x) (bits_of 8 y) refl e) ∙ value_of-bits_of 8 y hy

series-one : (x : ℕ) → byte_times x one ≡ series x
unfolding byte_bits
series-one x = times_one taps 7 low (bits_of 8 x) (omega arith)

series-xor : (x y : ℕ) → series (bit_xor x y) ≡ add (series x) (series y)
unfolding byte_bits
series-xor x y = ap coefficient (bits_of-xor 8 x y) ∙ same_series (coefficient-polynomial_sum (bits_of 8 x) (bits_of 8 y))

series-product : (x y : ℕ) → series (mul8 x y) ≡ byte_times x (series y)
unfolding mul8 byte_bits
series-product x y =
    let p = field_product taps 8 (bits_of 8 x) (bits_of 8 y) in
    ap coefficient (ap (λ n. bits_of n (value_of p)) (sym (length-product x y)) ∙ bits_of-value_of p)
    ∙ field_product_is taps 7 low (bits_of 8 x) (bits_of 8 y) refl refl

times_times : (x y : ℕ) (f : Series) → byte_times x (byte_times y f) ≡ byte_times y (byte_times x f)
times_times x y f = times_swap 7 (modulus taps 8) (byte_bits x) (byte_bits y) f

-- ---- the laws

mul8_comm : (x y : ℕ) → mul8 x y ≡ mul8 y x
mul8_comm x y =
    same_from_series _ _ (mul8_lt x y) (mul8_lt y x)
    (series-product x y ∙ ap (byte_times x) (sym (series-one y)) ∙ times_times x y one
    ∙ ap (byte_times y) (series-one x) ∙ sym (series-product y x))

mul8_assoc : (x y z : ℕ) → mul8 (mul8 x y) z ≡ mul8 x (mul8 y z)
mul8_assoc x y z =
    mul8_comm (mul8 x y) z
    ∙ same_from_series _ _ (mul8_lt z (mul8 x y)) (mul8_lt x (mul8 y z))
    (series-product z (mul8 x y) ∙ ap (byte_times z) (series-product x y) ∙ times_times z x (series y)
    ∙ ap (byte_times x) (sym (series-product z y) ∙ ap series (mul8_comm z y)) ∙ sym (series-product x (mul8 y z)))

pub mul8-xor_right : (x : ℕ) → IsAdditive (mul8 x)
mul8-xor_right x y z =
    same_from_series _ _ (mul8_lt x (bit_xor y z)) (xor_lt 8 (mul8 x y) (mul8 x z) (mul8_lt x y) (mul8_lt x z))
    (series-product x (bit_xor y z) ∙ ap (byte_times x) (series-xor y z)
    ∙ horner-add 7 (modulus taps 8) (length (byte_bits x)) (series x) (series y) (series z)
    ∙ ap₂ add (sym (series-product x y)) (sym (series-product x z)) ∙ sym (series-xor (mul8 x y) (mul8 x z)))

one_test : all_below (λ b. mul8 b 1 == b) 256 ≡ true
unfolding field
one_test = refl

mul8-one : (b : ℕ) → b < 256 → mul8 b 1 ≡ b
mul8-one b h = same_below (λ t. mul8 t 1) (λ t. t) 256 b one_test h

-- ---- the inverse

-- whatever has product 1 with x is the least that has
pub inv_is : (x y : ℕ) → y < 256 → mul8 x y ≡ 1 → inv x ≡ y
unfolding inv
inv_is x y hy one =
    ap (λ o. unwrap_or o 0) (find_first (λ z. mul8 x z == 1) 0 256 y (omega arith) hy (eq-eqb (mul8 x y) 1 one)
    (λ z lt.
    false_from_ne_true _
    (λ h.
    let same =
    sym (mul8-one z (omega arith)) ∙ ap (mul8 z) (sym one) ∙ sym (mul8_assoc z x y)
    ∙ ap (λ t. mul8 t y) (mul8_comm z x ∙ eqb-true (mul8 x z) 1 h) ∙ mul8_comm 1 y ∙ mul8-one y hy in
    omega arith)))

-- ---- the products by {02} and {03}

two_test : all_below (λ b. bit_xor (b * 2 ^ 1 % 2 ^ 8) (b / 2 ^ 7 * 0x1b) == mul8 2 b) 256 ≡ true
unfolding field
two_test = refl

pub two_is : (b : ℕ) → b < 256 → bit_xor (b * 2 ^ 1 % 2 ^ 8) (b / 2 ^ 7 * 0x1b) ≡ mul8 2 b
two_is b h = same_below (λ t. bit_xor (t * 2 ^ 1 % 2 ^ 8) (t / 2 ^ 7 * 0x1b)) (mul8 2) 256 b two_test h

pub three_is : (b : ℕ) → b < 256 → bit_xor (mul8 2 b) b ≡ mul8 3 b
three_is b h = sym (mul8_comm 3 b ∙ mul8-xor_right b 2 1 ∙ ap₂ bit_xor (mul8_comm b 2) (mul8-one b h))

-- ---- the product by doublings

halves_test : all_below (λ z. bit_xor (mul8 2 (z / 2)) (z % 2) == z) 256 ≡ true
unfolding field
halves_test = refl

by_digit : (x d : ℕ) → x < 256 → d < 2 → mul8 x d ≡ (if d == 1 then x else 0)
by_digit x zero hx hd = IsAdditive_zero (mul8 x) (mul8-xor_right x)
by_digit x (suc zero) hx hd = mul8-one x hx
by_digit x _ hx hd = absurd (omega arith)

pub step_of_product : (x z : ℕ) → x < 256 → z < 256 → mul8 x z ≡ bit_xor (mul8 2 (mul8 x (z / 2))) (if z % 2 == 1 then x else 0)
step_of_product x z hx hz =
    ap (mul8 x) (sym (same_below (λ t. bit_xor (mul8 2 (t / 2)) (t % 2)) (λ t. t) 256 z halves_test hz))
    ∙ mul8-xor_right x _ _
    ∙ ap₂ bit_xor (sym (mul8_assoc x 2 _) ∙ ap (λ t. mul8 t (z / 2)) (mul8_comm x 2) ∙ mul8_assoc 2 x _) (by_digit x (z % 2) hx (omega arith))

abbrev fast_mul : ℕ → ℕ → ℕ → ℕ
fast_mul zero x z = 0
fast_mul (suc k) x z =
    let t = fast_mul k x (z / 2) in
    bit_xor (bit_xor (t * 2 ^ 1 % 2 ^ 8) (t / 2 ^ 7 * 0x1b)) (if z % 2 == 1 then x else 0)

fast_mul_is : (k x z : ℕ) → x < 256 → z < 256 → z < 2 ^ k → fast_mul k x z ≡ mul8 x z
fast_mul_is zero x z hx hz h =
    let none : z ≡ 0 = omega arith in
    sym (ap (mul8 x) none ∙ IsAdditive_zero (mul8 x) (mul8-xor_right x))
fast_mul_is (suc k) x z hx hz h =
    let half : z / 2 < 2 ^ k = omega (arith, pow-suc 2 k) in
    ap (λ t. bit_xor (bit_xor (t * 2 ^ 1 % 2 ^ 8) (t / 2 ^ 7 * 0x1b)) (if z % 2 == 1 then x else 0)) (fast_mul_is k x _ hx (omega arith) half)
    ∙ ap (λ t. bit_xor t (if z % 2 == 1 then x else 0)) (two_is (mul8 x _) (mul8_lt x _))
    ∙ sym (step_of_product x z hx hz)

abbrev fast_mul8 : ℕ → ℕ → ℕ
fast_mul8 x z = fast_mul 8 (x % 256) (z % 256)

mul8-mod : (x z : ℕ) → mul8 (x % 256) (z % 256) ≡ mul8 x z
unfolding mul8
mul8-mod x z = ap₂ (λ p q. value_of (field_product (0 ∷ 1 ∷ 3 ∷ 4 ∷ []) 8 p q)) (bits_of-mod 8 x) (bits_of-mod 8 z)

fast_mul8_is : (x z : ℕ) → fast_mul8 x z ≡ mul8 x z
fast_mul8_is x z = fast_mul_is 8 _ _ (omega arith) (omega arith) (omega arith) ∙ mul8-mod x z

-- a test of the product passes if it passes with the fast one
pub by_fast_mul8 : (test : (ℕ → ℕ → ℕ) → Bool) → test fast_mul8 ≡ true → test mul8 ≡ true
by_fast_mul8 test h = ap test (λ i x z. sym (fast_mul8_is x z) i) ∙ h
