-- Operations on planes, seen at one byte.
use Rattle.std.proofs.Common.{◌≡◌, ℕ, zero, suc, ◌+◌, ◌/◌, ◌%◌, ◌^◌, ◌<◌, min, Bool, true, ◌&&◌, List, [], ◌∷◌, refl, sym, ap, ◌∙◌, arith, bit_xor, bit_and, slice_index, div-one, ◌==◌, shr-shr}
use Rattle.std.specs.Int.{bit_at}
use Rattle.std.proofs.lemmas.Nat.Bits.{bit_at_xor, bit_at_and, bit_at-lt}
use Rattle.aead_ciphers_base.specs
use specs.Polynomial.{◌xor◌, coefficient}
use specs.ByteField.{bits_of, value_of, mul8}
use specs.Planes.{plane_byte}
use Rattle.aead_ciphers_base.proofs
use proofs.NumberBits.{by_digits, bits_of-value_of, value_of-lt, all_below, same_below}
use proofs.ByteFieldLaws.{field}
use specs.Bytes.{each_below}

-- ---- one bit

sum_digit : (x y : ℕ) → x < 2 → y < 2 → ((x + y) % 2 == 1) ≡ ◌xor◌ (x == 1) (y == 1)
sum_digit x y hx hy = by_digits (λ x y. ((x + y) % 2 == 1) ≡ ◌xor◌ (x == 1) (y == 1)) x y hx hy refl refl refl refl

min_digit : (x y : ℕ) → x < 2 → y < 2 → (min x y == 1) ≡ ((x == 1) && (y == 1))
min_digit x y hx hy = by_digits (λ x y. (min x y == 1) ≡ ((x == 1) && (y == 1))) x y hx hy refl refl refl refl

-- XOR and AND keep each bit apart from the others
pub set-xor : (a b p : ℕ) → (bit_at (bit_xor a b) p == 1) ≡ ◌xor◌ (bit_at a p == 1) (bit_at b p == 1)
set-xor a b p = ap (λ t. t == 1) (bit_at_xor a b p) ∙ sum_digit (bit_at a p) (bit_at b p) (bit_at-lt a p) (bit_at-lt b p)

pub set-and : (a b p : ℕ) → (bit_at (bit_and a b) p == 1) ≡ ((bit_at a p == 1) && (bit_at b p == 1))
set-and a b p = ap (λ t. t == 1) (bit_at_and a b p) ∙ min_digit (bit_at a p) (bit_at b p) (bit_at-lt a p) (bit_at-lt b p)

-- ---- one byte

abbrev pub plane_bits : List ℕ → ℕ → List Bool
plane_bits a p = each_below 8 (λ b. bit_at (slice_index a b) p == 1)

pub plane_byte_lt : (a : List ℕ) (p : ℕ) → plane_byte a p < 256
unfolding plane_byte
plane_byte_lt a p = value_of-lt (plane_bits a p)

plane_byte_bits : (a : List ℕ) (p : ℕ) → bits_of 8 (plane_byte a p) ≡ plane_bits a p
unfolding plane_byte
plane_byte_bits a p = bits_of-value_of _

-- bit i of a number
pub bits_of_at : (k n i : ℕ) → i < k → coefficient (bits_of k n) i ≡ (n / 2 ^ i % 2 == 1)
bits_of_at (suc k) n zero h = ap (λ t. t % 2 == 1) (sym (div-one n))
bits_of_at (suc k) n (suc i) h =
    let e = shr-shr n 1 i in
    let s : 1 + i ≡ suc i = omega arith in
    bits_of_at k _ i (omega arith) ∙ ap (λ t. t % 2 == 1) (e ∙ ap (λ t. n / 2 ^ t) s)
bits_of_at _ n i h = absurd (omega arith)

-- ---- times x

times_x_bits : List Bool → List Bool
times_x_bits q =
    coefficient q 7 ∷ ◌xor◌ (coefficient q 0) (coefficient q 7) ∷ coefficient q 1 ∷ ◌xor◌ (coefficient q 2) (coefficient q 7)
    ∷ ◌xor◌ (coefficient q 3) (coefficient q 7) ∷ coefficient q 4 ∷ coefficient q 5 ∷ coefficient q 6 ∷ []

times_x_test : all_below (λ n. value_of (times_x_bits (bits_of 8 n)) == mul8 2 n) 256 ≡ true
unfolding field times_x_bits
times_x_test = refl

pub times_x_plane : (a : List ℕ) (p : ℕ)
    → plane_byte (slice_index a 7 ∷ bit_xor (slice_index a 0) (slice_index a 7) ∷ slice_index a 1 ∷ bit_xor (slice_index a 2) (slice_index a 7)
    ∷ bit_xor (slice_index a 3) (slice_index a 7) ∷ slice_index a 4 ∷ slice_index a 5 ∷ slice_index a 6 ∷ []) p ≡ mul8 2 (plane_byte a p)
unfolding plane_byte times_x_bits
times_x_plane a p =
    let at0 = set-xor (slice_index a 0) (slice_index a 7) p in
    let at2 = set-xor (slice_index a 2) (slice_index a 7) p in
    let at3 = set-xor (slice_index a 3) (slice_index a 7) p in
    let n = plane_byte a p in
    let test = same_below (λ t. value_of (times_x_bits (bits_of 8 t))) (mul8 2) 256 n times_x_test (plane_byte_lt a p) in
    rw (at0, at2, at3) (ap (λ q. value_of (times_x_bits q)) (sym (plane_byte_bits a p)) ∙ test)
