-- Sums of polynomials, and the lengths of a product and of a remainder.
use Rattle.std.proofs.Common.{◌≡◌, ℕ, zero, suc, ◌+◌, ◌-◌, Bool, List, [], ◌∷◌, length, refl, sym, arith}
use Rattle.aead_ciphers_base.specs.Polynomial.{◌xor◌, coefficient, polynomial_product, remainder}
use Rattle.aead_ciphers_base.proofs
use proofs.EachLemmas.{length-each}
use proofs.PolynomialBits.{xor_zero}

abbrev pub polynomial_sum : List Bool → List Bool → List Bool
polynomial_sum [] q = q
polynomial_sum (a ∷ p) [] = a ∷ p
polynomial_sum (a ∷ p) (b ∷ q) = ◌xor◌ a b ∷ polynomial_sum p q

pub coefficient-polynomial_sum : (p q : List Bool) (i : ℕ) → coefficient (polynomial_sum p q) i ≡ ◌xor◌ (coefficient p i) (coefficient q i)
coefficient-polynomial_sum [] q i = refl
coefficient-polynomial_sum (a ∷ p) [] i = sym (xor_zero (coefficient (a ∷ p) i))
coefficient-polynomial_sum (a ∷ p) (b ∷ q) zero = refl
coefficient-polynomial_sum (a ∷ p) (b ∷ q) (suc i) = coefficient-polynomial_sum p q i

pub length-polynomial_product : (a b : List Bool) → length (polynomial_product a b) ≡ length a + length b - 1
unfolding polynomial_product
length-polynomial_product a b = length-each _ _

pub length-remainder : (taps : List ℕ) (d n : ℕ) (p : List Bool) → length p ≡ d + n → length (remainder taps d n p) ≡ d
unfolding remainder
length-remainder taps d zero p e = omega arith
length-remainder taps d (suc n) p e = length-remainder taps d n _ (length-each (d + n) _)
