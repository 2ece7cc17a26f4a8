-- AND with a mask, shifts and XOR keep sums, so a function made of them is known by what it does to the powers of two.
use Rattle.std.proofs.Common.{◌≡◌, ℕ, ◌+◌, ◌*◌, ◌/◌, ◌%◌, ◌^◌, ◌<◌, min, refl, sym, ap, ap₂, ◌∙◌, arith, bit_xor, bit_and, pow_pos}
use Rattle.std.specs
use specs.Int.{bit_at}
use specs.Int.Bits.{xor_shr, xor_mod, xor_block, xor_assoc, xor_comm}
use Rattle.std.proofs.lemmas.Nat.Bits.{bit_at_xor, bit_at_and, bit_at-lt, same_from_bits}
use Rattle.aead_ciphers_base.proofs.NumberBits.{IsAdditive, by_digits}

min_sum : (x y z : ℕ) → x < 2 → y < 2 → z < 2 → min ((x + y) % 2) z ≡ (min x z + min y z) % 2
min_sum x y z hx hy hz = omega arith

pub additive_and : (m : ℕ) → IsAdditive (λ x. bit_and x m)
additive_and m a b =
    same_from_bits _ _ (λ i.
    bit_at_and _ m i ∙ ap (λ t. min t (bit_at m i)) (bit_at_xor a b i)
    ∙ min_sum (bit_at a i) (bit_at b i) (bit_at m i) (bit_at-lt a i) (bit_at-lt b i) (bit_at-lt m i)
    ∙ sym (bit_at_xor (bit_and a m) _ i ∙ ap₂ (λ s t. (s + t) % 2) (bit_at_and a m i) (bit_at_and b m i)))

pub additive_shr : (k : ℕ) → IsAdditive (λ x. x / 2 ^ k)
additive_shr k a b = xor_shr a b k

pub additive_shl : (k w : ℕ) → IsAdditive (λ x. x * 2 ^ k % 2 ^ w)
additive_shl k w a b =
    let plain : (t : ℕ) → t * 2 ^ k + 0 ≡ t * 2 ^ k = λ t. omega arith in
    ap (λ t. t % 2 ^ w)
    (sym (plain (bit_xor a b)) ∙ sym (xor_block k a b 0 0 (pow_pos k) (pow_pos k)) ∙ ap₂ bit_xor (plain a) (plain b))
    ∙ xor_mod _ _ w

pub xor_four : (a b c d : ℕ) → bit_xor (bit_xor a b) (bit_xor c d) ≡ bit_xor (bit_xor a c) (bit_xor b d)
xor_four a b c d =
    xor_assoc a b _
    ∙ ap (bit_xor a) (sym (xor_assoc b c d) ∙ ap (λ t. bit_xor t d) (xor_comm b c) ∙ xor_assoc c b d)
    ∙ sym (xor_assoc a c _)

pub additive_xor : (f g : ℕ → ℕ) → IsAdditive f → IsAdditive g → IsAdditive (λ x. bit_xor (f x) (g x))
additive_xor f g hf hg a b = ap₂ bit_xor (hf a b) (hg a b) ∙ xor_four (f a) (f b) (g a) (g b)

pub additive_after : (f g : ℕ → ℕ) → IsAdditive f → IsAdditive g → IsAdditive (λ x. f (g x))
additive_after f g hf hg a b = ap f (hg a b) ∙ hf (g a) (g b)

digit_sum : (x y : ℕ) → x < 2 → y < 2 → (x + y) % 2 ≡ bit_xor x y
digit_sum x y hx hy = by_digits (λ x y. (x + y) % 2 ≡ bit_xor x y) x y hx hy refl refl refl refl

pub additive_bit : (i : ℕ) → IsAdditive (λ x. bit_at x i)
additive_bit i a b = bit_at_xor a b i ∙ digit_sum _ _ (bit_at-lt a i) (bit_at-lt b i)
