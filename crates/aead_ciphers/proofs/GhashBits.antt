-- The bits of a number, as coefficients, under XOR, masks and a shift by one; and its bytes.
use Rattle.std.proofs.Common.{◌≡◌, ℕ, zero, suc, ◌+◌, ◌-◌, ◌/◌, ◌%◌, ◌^◌, ◌<◌, Bool, true, false, List, [], ◌∷◌, ◌++◌, length, refl, sym, ap, ap₂, ◌∙◌, arith, if◌then◌else◌, ◌==◌, bit_and, bit_xor, mod-eq_of_lt, pow-suc, div-one, pow_pos, reverse}
use Rattle.std.proofs.Math.Bool.{and-false, and-true}
use Rattle.std.proofs.Math.Nat.{mod_self}
use Rattle.std.specs.Int.{bit_at}
use Rattle.std.specs.Int.Bits.{and_zero_r}
use Rattle.std.proofs.Math.ListN.{get_or-eq_default}
use Rattle.std.proofs.lemmas
use lemmas.Nat.{and_mask}
use lemmas.Nat.Bits.{bit_at_xor, bit_at-zero, bit_at-suc, bit_at-lt, bit_at_above}
use lemmas.List.{reverse-append}
use Rattle.aead_ciphers_base.specs
use specs.ByteField.{bits_of}
use specs.Polynomial.{◌xor◌, coefficient}
use Rattle.aead_ciphers_base.proofs
use proofs.PolynomialBits.{Series, add, add_assoc, add_none, add_self, none, same_series, same_steps, scale, shift, shift-add, xor_zero}
use proofs.PolynomialSums.{polynomial_sum, coefficient-polynomial_sum}
use proofs.NumberBits.{by_digits}
use proofs.PolynomialLaws.{mul_x, AllBelow, modulus, monomial, monomial_same, mul_x-high, mul_x-low, tap_bits}

-- the lowest k bits of n, the highest of them first
unfoldable pub bits_high_first : ℕ → ℕ → List Bool
bits_high_first zero n = []
bits_high_first (suc k) n = (bit_at n k == 1) ∷ bits_high_first k n

-- the coefficients of the k bits of n
abbrev pub coefficients : ℕ → ℕ → Series
coefficients k n = coefficient (bits_high_first k n)

pub length-bits : (k n : ℕ) → length (bits_high_first k n) ≡ k
unfolding bits_high_first
length-bits zero n = refl
length-bits (suc k) n = ap suc (length-bits k n)

xor-parity : (x y : ℕ) → x < 2 → y < 2 → ((x + y) % 2 == 1) ≡ ((x == 1) xor (y == 1))
xor-parity x y h j = by_digits (λ x y. ((x + y) % 2 == 1) ≡ ((x == 1) xor (y == 1))) x y h j refl refl refl refl

pub bits-xor : (k x y : ℕ) → bits_high_first k (bit_xor x y) ≡ polynomial_sum (bits_high_first k x) (bits_high_first k y)
unfolding bits_high_first
bits-xor zero x y = refl
bits-xor (suc k) x y =
    ap₂ (λ b p. b ∷ p) (ap (λ n. n == 1) (bit_at_xor x y k) ∙ xor-parity _ _ (bit_at-lt x k) (bit_at-lt y k)) (bits-xor k x y)

pub coefficients-xor : (k a b : ℕ) → coefficients k (bit_xor a b) ≡ add (coefficients k a) (coefficients k b)
coefficients-xor k a b = ap coefficient (bits-xor k a b) ∙ same_series (coefficient-polynomial_sum (bits_high_first k a) _)

pub coefficients-zero : (k : ℕ) → coefficients k 0 ≡ none
unfolding bits_high_first
coefficients-zero zero = refl
coefficients-zero (suc k) = same_steps _ _ (ap (λ x. x == 1) (bit_at-zero k)) (λ j. ap (λ f. f j) (coefficients-zero k))

-- 0 less a bit, at w bits
abbrev pub mask : ℕ → ℕ → ℕ
mask w bit = (0 + (2 ^ w - bit)) % 2 ^ w

pub masked : (w v x : ℕ) → x < 2 → v < 2 ^ w → bit_and v (mask w x) ≡ (if x == 1 then v else 0)
masked w v zero h below =
    let e : 0 + (2 ^ w - 0) ≡ 2 ^ w = omega arith in
    ap (bit_and v) (ap (λ n. n % 2 ^ w) e ∙ mod_self _) ∙ and_zero_r v
masked w v (suc zero) h below =
    let e : 0 + (2 ^ w - 1) ≡ 2 ^ w - 1 = omega arith in
    let p = pow_pos w in
    ap (bit_and v) (ap (λ n. n % 2 ^ w) e ∙ mod-eq_of_lt (omega arith)) ∙ and_mask v w ∙ mod-eq_of_lt below
masked w v _ h below = absurd (omega arith)

chosen : (k v x : ℕ) → x < 2 → coefficients k (if x == 1 then v else 0) ≡ scale (x == 1) (coefficients k v)
chosen k v zero h = coefficients-zero k
chosen k v (suc zero) h = refl
chosen k v _ h = absurd (omega arith)

pub coefficients-masked : (k w v x : ℕ) → x < 2 → v < 2 ^ w → coefficients k (bit_and v (mask w x)) ≡ scale (x == 1) (coefficients k v)
coefficients-masked k w v x h below = ap (coefficients k) (masked w v x h below) ∙ chosen k v x h

-- ---- a shift by one

pub bits-push : (k n : ℕ) → bits_high_first (suc k) n ≡ bits_high_first k (n / 2) ++ ((bit_at n 0 == 1) ∷ [])
unfolding bits_high_first
bits-push zero n = refl
bits-push (suc k) n = ap₂ (λ x p. (x == 1) ∷ p) (bit_at-suc n k) (bits-push k n)

pub reverse-bits_of : (k n : ℕ) → reverse (bits_of k n) ≡ bits_high_first k n
unfolding bits_high_first
reverse-bits_of zero n = refl
reverse-bits_of (suc k) n =
    reverse-append ((n % 2 == 1) ∷ []) (bits_of k _)
    ∙ ap₂ (λ p x. p ++ ((x % 2 == 1) ∷ [])) (reverse-bits_of k _) (sym (div-one n)) ∙ sym (bits-push k n)

pub bits-half : (k n : ℕ) → n < 2 ^ (suc k) → bits_high_first (suc k) (n / 2) ≡ false ∷ bits_high_first k (n / 2)
unfolding bits_high_first
bits-half k n h = ap (λ x. (x == 1) ∷ bits_high_first k (n / 2)) (bit_at_above (n / 2) k k (omega (arith, pow-suc 2 k)) (omega arith))

coefficient-push : (q : List Bool) (b : Bool) → coefficient (q ++ (b ∷ [])) ≡ add (coefficient q) (scale b (monomial (length q)))
coefficient-push [] b = same_steps _ _ (sym (and-true b)) (λ j. sym (and-false b))
coefficient-push (x ∷ q) b =
    same_steps _ _ (sym (ap (λ c. x xor c) (and-false b) ∙ xor_zero x)) (λ j. ap (λ f. f j) (coefficient-push q b))

pub mul_x-push : (top : ℕ) (taps : List ℕ) (low : AllBelow (suc top) taps) (q : List Bool) (b : Bool) → length q ≡ top →
    mul_x top (modulus taps (suc top)) (coefficient (q ++ (b ∷ []))) ≡ add (shift (coefficient q)) (scale b (tap_bits taps))
mul_x-push top taps low q false e =
    let m = modulus taps (suc top) in
    ap (mul_x top m) (coefficient-push q false ∙ add_none _)
    ∙ mul_x-low taps top low _ (get_or-eq_default q false (omega arith))
    ∙ sym (add_none (shift (coefficient q)))
mul_x-push top taps low q true e =
    let m = modulus taps (suc top) in
    let one = monomial (suc top) in
    ap (mul_x top m) (coefficient-push q true ∙ ap (λ n. add (coefficient q) (monomial n)) e)
    ∙ mul_x-high taps top low (add (coefficient q) (monomial top)) (ap₂ ◌xor◌ (get_or-eq_default q false (omega arith)) (monomial_same top))
    ∙ ap (λ s. add s m) (shift-add (coefficient q) _)
    ∙ add_assoc (shift (coefficient q)) one m
    ∙ ap (add (shift (coefficient q))) (sym (add_assoc one one (tap_bits taps)) ∙ ap (λ s. add s (tap_bits taps)) (add_self one))
