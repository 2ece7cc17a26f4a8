-- The square of a polynomial, by Horner's rule in x^2, and as a linear map; what is its own square is zero or the unit.
use Rattle.std.proofs.Common.{◌≡◌, ℕ, suc, ◌^◌, ◌<◌, ◌≤◌, ◌⊎◌, inl, inr, Bool, true, false, List, [], ◌∷◌, length, replicate, refl, sym, ap, ap₂, ◌∙◌, arith, if◌then◌else◌, bit_and}
use Rattle.std.proofs.Math.Dec.{lit<}
use Rattle.std.specs.Int.Bits.{xor_zero_l}
use Rattle.std.proofs.lemmas.Nat.{and_le_l, xor_lt}
use Rattle.aead_ciphers_base.specs.Polynomial.{coefficient}
use Rattle.aead_ciphers_base.proofs.PolynomialLaws.{horner-add, horner-mul_x, horner-none, horner-scale, mul_x, mul_x-add, mul_x-none, mul_x-scale, times, modulus, one, same_coefficients}
use Rattle.aead_ciphers_base.proofs.PolynomialBits.{Series, add, add_assoc, add_exchange, add_none, add_self, none, same_steps, scale, scale_add}
use Rattle.aead_ciphers.specs.Ghash.{block_taps}
use Rattle.aead_ciphers.proofs
use proofs.GhashBits.{coefficients, coefficients-xor, coefficients-zero, length-bits, mask, bits_high_first}
use proofs.LinearMaps.{combined, image-combined, image-zero, none_combined, twos}
use proofs.ProductLoop.{multiple_is, next_multiple, reduction, zeros_end}
use proofs.SquareTables.{differences, even_powers, given_back, given_back_is, squares_and_powers, unit}

-- the product with x
abbrev pub X : Series → Series
X f = mul_x 127 (modulus block_taps 128) f

-- the product with a polynomial
abbrev pub multiple : List Bool → Series → Series
multiple p f = times 127 (modulus block_taps 128) p f

-- the product with its square
abbrev squares : List Bool → Series → Series
squares [] f = none
squares (b ∷ p) f = add (scale b f) (X (X (squares p f)))

scale_self : (b : Bool) (f : Series) → scale b (scale b f) ≡ scale b f
scale_self false f = refl
scale_self true f = refl

add_middle : (f g h : Series) → add (add f g) (add g h) ≡ add f h
add_middle f g h = add_assoc f g _ ∙ ap (add f) (sym (add_assoc g g h) ∙ ap (λ s. add s h) (add_self g))

square_is : (p : List Bool) (f : Series) → multiple p (multiple p f) ≡ squares p f
square_is [] f = refl
square_is (b ∷ p) f =
    let m = modulus block_taps 128 in
    let c = coefficient p in
    let g = multiple p f in
    let rest =
    horner-add 127 m _ c _ (X g)
    ∙ ap₂ add (horner-scale 127 m _ c b f) (horner-mul_x 127 m _ c g) in
    ap₂ add
    (scale_add b _ (X g) ∙ ap (λ s. add s (scale b (X g))) (scale_self b f))
    (ap X rest ∙ mul_x-add 127 m (scale b g) (X (multiple p g)) ∙ ap (λ s. add s (X (X (multiple p g)))) (mul_x-scale 127 m b g))
    ∙ add_middle (scale b f) (scale b (X g)) (X (X (multiple p g)))
    ∙ ap (λ s. add (scale b f) (X (X s))) (square_is p f)

squares-X : (p : List Bool) (f : Series) → squares p (X f) ≡ X (squares p f)
squares-X [] f = sym (mul_x-none 127 (modulus block_taps 128))
squares-X (b ∷ p) f =
    let m = modulus block_taps 128 in
    ap₂ add (sym (mul_x-scale 127 m b f)) (ap (λ s. X (X s)) (squares-X p f)) ∙ sym (mul_x-add 127 m (scale b f) (X (X (squares p f))))

-- ---- the same on numbers of 128 bits

next-below : (v : ℕ) → v < 2 ^ 128 → next_multiple v < 2 ^ 128
next-below v below =
    let m = mask 128 (bit_and v 1) in
    let high = and_le_l reduction m in
    xor_lt 128 _ (bit_and reduction m) (omega arith) (omega (arith, high))

chosen_is : (b : Bool) (n : ℕ) → coefficients 128 (if b then n else 0) ≡ scale b (coefficients 128 n)
chosen_is false n = coefficients-zero 128
chosen_is true n = refl

combined_is : (p : List Bool) (n v w : ℕ) → length p ≤ n → v < 2 ^ 128 → w < 2 ^ 128 →
    add (squares p (coefficients 128 v)) (multiple p (coefficients 128 w)) ≡ coefficients 128 (combined p (squares_and_powers n v w))
combined_is [] n v w fits below_v below_w = sym (coefficients-zero 128)
combined_is (b ∷ p) (suc n) v w fits below_v below_w =
    let m = modulus block_taps 128 in
    let cv = coefficients 128 v in
    let cw = coefficients 128 w in
    let v' = next_multiple (next_multiple v) in
    let w' = next_multiple w in
    let below_next = next-below v below_v in
    let even =
    ap X (sym (squares-X p cv)) ∙ sym (squares-X p _)
    ∙ ap (squares p) (sym (multiple_is (next_multiple v) below_next ∙ ap X (multiple_is v below_v))) in
    let each =
    sym (horner-mul_x 127 m (length p) (coefficient p) cw) ∙ ap (multiple p) (sym (multiple_is w below_w)) in
    let rest = combined_is p n v' w' (omega arith) (next-below (next_multiple v) below_next) (next-below w below_w) in
    add_exchange (scale b cv) (X (X (squares p cv))) (scale b cw) (X (multiple p cw))
    ∙ ap₂ add
    (sym (scale_add b cv cw) ∙ ap (scale b) (sym (coefficients-xor 128 v w)) ∙ sym (chosen_is b _))
    (ap₂ add even each ∙ rest)
    ∙ sym (coefficients-xor 128 _ _)
combined_is _ _ v w fits below_v below_w = absurd (omega arith)

unit_number_bits : bits_high_first 128 unit ≡ true ∷ replicate 127 false
unfolding bits_high_first
unit_number_bits = refl

unit_number : coefficients 128 unit ≡ one
unit_number = ap coefficient unit_number_bits ∙ same_steps _ _ refl (λ k. zeros_end 127 k)

pub square_number : (p : List Bool) → length p ≡ 128 → multiple p (multiple p one) ≡ coefficients 128 (combined p even_powers)
unfolding even_powers
square_number p size =
    let nothing =
    ap (multiple p) (coefficients-zero 128) ∙ horner-none 127 (modulus block_taps 128) (length p) (coefficient p) in
    square_is p one ∙ sym (add_none (squares p one)) ∙ ap₂ add (ap (squares p) (sym unit_number)) (sym nothing)
    ∙ combined_is p 128 unit 0 (omega arith) (lit< tt) (lit< tt)

-- ---- what is its own square

zero_or_unit : (p : List Bool) → length p ≡ 128 → combined p (0 ∷ twos 127) ≡ 0 → (p ≡ replicate 128 false) ⊎ (p ≡ true ∷ replicate 127 false)
zero_or_unit (false ∷ p) size e =
    inl (ap (λ q. false ∷ q) (none_combined 127 p (omega arith) (sym (xor_zero_l (combined p _)) ∙ e)))
zero_or_unit (true ∷ p) size e =
    inr (ap (λ q. true ∷ q) (none_combined 127 p (omega arith) (sym (xor_zero_l (combined p _)) ∙ e)))
zero_or_unit _ size e = absurd (omega arith)

pub own_square_bits : (p : List Bool) → length p ≡ 128 → multiple p (multiple p one) ≡ multiple p one →
    (p ≡ replicate 128 false) ⊎ (p ≡ true ∷ replicate 127 false)
unfolding differences
own_square_bits p size e =
    let sum = combined p differences in
    let nothing =
    sym (combined_is p 128 unit unit (omega arith) (lit< tt) (lit< tt))
    ∙ ap (λ f. add (squares p f) (multiple p f)) unit_number
    ∙ ap (λ f. add f (multiple p one)) (sym (square_is p one) ∙ e) ∙ add_self (multiple p one) ∙ sym (coefficients-zero 128) in
    let bits = same_coefficients _ _ (length-bits 128 sum ∙ sym (length-bits 128 0)) nothing in
    zero_or_unit p size
    (ap (combined p) (sym given_back_is) ∙ sym (image-combined given_back p differences)
    ∙ ap (λ q. combined q given_back) bits ∙ image-zero given_back)
