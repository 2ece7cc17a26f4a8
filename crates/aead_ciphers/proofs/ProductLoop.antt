-- The next multiple of a block, as the code shifts it.
use Rattle.std.proofs
use proofs.Common.{◌≡◌, ℕ, zero, suc, ◌/◌, ◌^◌, ◌<◌, Bool, true, false, List, ◌∷◌, replicate, refl, sym, ap, ap₂, subst, ◌∙◌, arith, ◌==◌, bit_and, bit_xor}
use Rattle.std.specs.Int.{bit_at}
use proofs.Math.Dec.{lit<}
use proofs.lemmas.Nat.{and_mask}
use proofs.lemmas.Nat.Bits.{bit_at_lowest, bit_at-lt}
use Rattle.aead_ciphers_base.specs.Polynomial.{coefficient}
use Rattle.aead_ciphers_base.proofs.PolynomialBits.{add, same_series, same_steps, scale, shift}
use Rattle.aead_ciphers_base.proofs.PolynomialLaws.{mul_x, AllBelow, modulus, tap_bits, taps_above}
use Rattle.aead_ciphers.specs.Ghash.{block_taps}
use Rattle.aead_ciphers.proofs.GhashBits.{coefficients, length-bits, coefficients-xor, mask, coefficients-masked, bits-push, bits-half, mul_x-push, bits_high_first}

pub block_low : AllBelow 128 block_taps
block_low = (lit< tt, (lit< tt, (lit< tt, (lit< tt, tt))))

-- the constant `R` of `product`
abbrev pub reduction : ℕ
reduction = 0xe1000000000000000000000000000000

-- the next multiple, as `write_multiples` computes it
abbrev pub next_multiple : ℕ → ℕ
next_multiple v = bit_xor (v / 2) (bit_and reduction (mask 128 (bit_and v 1)))

pub zeros_end : (n k : ℕ) → coefficient (replicate n false) k ≡ false
zeros_end zero k = refl
zeros_end (suc n) zero = refl
zeros_end (suc n) (suc k) = zeros_end n k

reduction_bits : bits_high_first 128 reduction ≡ true ∷ true ∷ true ∷ false ∷ false ∷ false ∷ false ∷ true ∷ replicate 120 false
unfolding bits_high_first
reduction_bits = refl

reduction_is : coefficients 128 reduction ≡ tap_bits block_taps
reduction_is = ap coefficient reduction_bits ∙ same_series go
  where
    go : (k : ℕ) → coefficient (true ∷ true ∷ true ∷ false ∷ false ∷ false ∷ false ∷ true ∷ replicate 120 false) k ≡ tap_bits block_taps k
    go zero = refl
    go (suc zero) = refl
    go (suc (suc zero)) = refl
    go (suc (suc (suc zero))) = refl
    go (suc (suc (suc (suc zero)))) = refl
    go (suc (suc (suc (suc (suc zero))))) = refl
    go (suc (suc (suc (suc (suc (suc zero)))))) = refl
    go (suc (suc (suc (suc (suc (suc (suc zero))))))) = refl
    go (suc (suc (suc (suc (suc (suc (suc (suc k)))))))) =
        let past = suc (suc (suc (suc (suc (suc (suc (suc k))))))) in
        zeros_end 120 k ∙ sym (taps_above 8 block_taps past (lit< tt, (lit< tt, (lit< tt, (lit< tt, tt)))) (omega arith))

shifted : (q : List Bool) → coefficient (false ∷ q) ≡ shift (coefficient q)
shifted q = same_steps _ _ refl (λ k. refl)

-- the next multiple is x times the multiple
pub multiple_is : (v : ℕ) → v < 2 ^ 128 → coefficients 128 (next_multiple v) ≡ mul_x 127 (modulus block_taps 128) (coefficients 128 v)
multiple_is v below =
    let lowest = and_mask v 1 ∙ sym (bit_at_lowest v) in
    let q = bits_high_first 127 (v / 2) in
    coefficients-xor 128 _ _
    ∙ ap₂ add
    (ap coefficient (bits-half 127 v below) ∙ shifted q)
    (coefficients-masked 128 128 reduction _ (subst (λ x. x < 2) (sym lowest) (bit_at-lt v 0)) (lit< tt)
    ∙ ap₂ (λ x s. scale (x == 1) s) lowest reduction_is)
    ∙ sym (mul_x-push 127 block_taps block_low q (bit_at v 0 == 1) (length-bits 127 _))
    ∙ ap (λ p. mul_x 127 (modulus block_taps 128) (coefficient p)) (sym (bits-push 127 v))
