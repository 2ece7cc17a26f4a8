-- Every block but zero has an inverse, so the blocks are a field: 128 squarings give each block back, and only zero and the unit
-- are their own squares. So a^(2^128 - 1) is zero or the unit.
use Rattle.std.proofs.Common.{◌≡◌, ◌≢◌, ℕ, zero, suc, ◌⊎◌, inl, inr, ⊎_elim, Bool, true, false, List, [], ◌∷◌, map, replicate, refl, sym, ap, ap₂, ◌∙◌}
use Rattle.aead_ciphers_base.proofs.XorLemmas.{xor_comm, xor_exchange}
use Rattle.aead_ciphers.specs
use specs.Bytes.{◌⊕◌, zero_block}
use Rattle.aead_ciphers_base.specs.Polynomial.{coefficient}
use Rattle.aead_ciphers_base.proofs.PolynomialLaws.{mul_x-none, modulus, one, same_coefficients}
use Rattle.aead_ciphers_base.proofs.PolynomialBits.{Series, add, add_none, none, scale}
use specs.Different.{HasInverse}
use specs.Ghash.{IsBlock, block_bits, block_taps, ◌•◌, unit_block}
use Rattle.aead_ciphers.proofs
use proofs.GhashLaws.{IsBlock-unit, IsBlock-zero, product_zero, xor_self, Sized, Sized-product, Sized-xor, multiple_of_one, series-unit, series-xor, unit_bits, xor_zero, product_assoc, product_comm, product_left_swap, product_unit, product_xor_left, product_xor_right, IsBlock-value, value_at}
use proofs.PaddedBlocks.{Blocks}
use proofs.BlockSquares.{X, multiple, own_square_bits, square_number}
use proofs.GhashBits.{length-bits, bits_high_first}
use proofs.GhashBlocks.{IsBlock-number, IsBlock-product, block_times, length-block_bits, same_blocks, same_from_series, series, series-product}
use proofs.LinearMaps.{combined}
use proofs.ProductLoop.{zeros_end}
use proofs.SquareTables.{even_powers, squared_bits, x_bits, x_squared}

zero_bits : block_bits zero_block ≡ replicate 128 false
unfolding block_bits
zero_bits = refl

series-zero : series zero_block ≡ none
series-zero = ap coefficient zero_bits ∙ (λ i k. zeros_end 128 k i)

-- ---- blocks that are their own square

series-square : (a : List ℕ) → Sized a → series (a • a) ≡ multiple (block_bits a) (multiple (block_bits a) one)
series-square a size = series-product a a size size ∙ ap (block_times a) (sym (multiple_of_one a size))

own_square : (t : List ℕ) → IsBlock t → t • t ≡ t → (t ≡ zero_block) ⊎ (t ≡ unit_block)
own_square t is_t e =
    ⊎_elim
    (λ (h : block_bits t ≡ replicate 128 false). inl (same_blocks t zero_block is_t IsBlock-zero (h ∙ sym zero_bits)))
    (λ (h : block_bits t ≡ true ∷ replicate 127 false). inr (same_blocks t unit_block is_t IsBlock-unit (h ∙ sym unit_bits)))
    (own_square_bits (block_bits t) (length-block_bits t is_t.size)
    (sym (series-square t is_t.size) ∙ ap series e ∙ sym (multiple_of_one t is_t.size)))

-- ---- squares of products, sums and polynomials

product_four : (a b c d : List ℕ) → Sized a → Sized b → Sized c → Sized d → (a • b) • (c • d) ≡ (a • c) • (b • d)
product_four a b c d sa sb sc sd =
    product_assoc a b _ sa sb (Sized-product c d)
    ∙ ap (λ x. a • x) (product_left_swap b c d sb sc sd)
    ∙ sym (product_assoc a c _ sa sc (Sized-product b d))

square-xor : (a b : List ℕ) → Sized a → Sized b → (a ⊕ b) • (a ⊕ b) ≡ (a • a) ⊕ (b • b)
square-xor a b sa sb =
    let ab = Sized-product a b in
    product_xor_left a b _ sa sb (Sized-xor a b sa sb)
    ∙ ap₂ ◌⊕◌ (product_xor_right a a b sa sa sb) (product_xor_right b a b sb sa sb ∙ xor_comm _ _)
    ∙ xor_exchange (a • a) (a • b) (b • b) (b • a)
    ∙ ap (λ x. ((a • a) ⊕ (b • b)) ⊕ x) (ap (λ x. (a • b) ⊕ x) (product_comm b a sb sa) ∙ xor_self _ ab)
    ∙ xor_zero _ (Sized-xor (a • a) _ (Sized-product a a) (Sized-product b b))

unit_or_zero : Bool → List ℕ
unit_or_zero false = zero_block
unit_or_zero true = unit_block

IsBlock-unit_or_zero : (b : Bool) → IsBlock (unit_or_zero b)
unfolding unit_or_zero
IsBlock-unit_or_zero false = IsBlock-zero
IsBlock-unit_or_zero true = IsBlock-unit

series-unit_or_zero : (b : Bool) → series (unit_or_zero b) ≡ scale b one
unfolding unit_or_zero
series-unit_or_zero false = series-zero
series-unit_or_zero true = series-unit

square-unit_or_zero : (b : Bool) → unit_or_zero b • unit_or_zero b ≡ unit_or_zero b
unfolding unit_or_zero
square-unit_or_zero false = product_zero zero_block refl
square-unit_or_zero true = product_unit unit_block IsBlock-unit

-- the value at y of the polynomial with these bits
abbrev bits_at : List ℕ → List Bool → List ℕ
bits_at y p = value_at y (map unit_or_zero p)

Blocks-units : (p : List Bool) → Blocks (map unit_or_zero p)
Blocks-units [] = tt
Blocks-units (b ∷ p) = (IsBlock-unit_or_zero b, Blocks-units p)

IsBlock-bits_at : (y : List ℕ) (p : List Bool) → IsBlock (bits_at y p)
IsBlock-bits_at y p = IsBlock-value y _ (Blocks-units p)

square-bits_at : (y : List ℕ) (p : List Bool) → Sized y → bits_at y p • bits_at y p ≡ bits_at (y • y) p
square-bits_at y [] sy = product_zero zero_block refl
square-bits_at y (b ∷ p) sy =
    let s = bits_at y p in
    let ss = (IsBlock-bits_at y p).size in
    square-xor _ _ (IsBlock-unit_or_zero b).size (Sized-product y s)
    ∙ ap₂ ◌⊕◌ (square-unit_or_zero b) (product_four y s y s sy ss sy ss ∙ ap (λ x. (y • y) • x) (square-bits_at y p sy))

-- ---- 128 squarings give each block back, since they give x back

-- a^(2^n)
abbrev squared : ℕ → List ℕ → List ℕ
squared zero a = a
squared (suc n) a = squared n a • squared n a

IsBlock-squared : (n : ℕ) (a : List ℕ) → IsBlock a → IsBlock (squared n a)
IsBlock-squared zero a is_a = is_a
IsBlock-squared (suc n) a is_a = IsBlock-product _ _

squared-bits_at : (n : ℕ) (y : List ℕ) (p : List Bool) → IsBlock y → squared n (bits_at y p) ≡ bits_at (squared n y) p
squared-bits_at zero y p is_y = refl
squared-bits_at (suc n) y p is_y =
    ap (λ x. x • x) (squared-bits_at n y p is_y) ∙ square-bits_at _ p (IsBlock-squared n y is_y).size

square_bits : (a : List ℕ) → Sized a → block_bits (a • a) ≡ bits_high_first 128 (combined (block_bits a) even_powers)
square_bits a size =
    let n = combined _ even_powers in
    same_coefficients _ _ (length-block_bits (a • a) (Sized-product a a) ∙ sym (length-bits 128 n))
    (series-square a size ∙ square_number _ (length-block_bits a size))

squared_is : (n : ℕ) (a : List ℕ) → IsBlock a → block_bits (squared n a) ≡ squared_bits even_powers n (block_bits a)
squared_is zero a is_a = refl
squared_is (suc n) a is_a =
    square_bits _ (IsBlock-squared n a is_a).size
    ∙ ap (λ p. bits_high_first 128 (combined p even_powers)) (squared_is n a is_a)

unfoldable x_block : List ℕ
x_block = 0x40 ∷ replicate 15 0

IsBlock-x : IsBlock x_block
unfolding x_block
IsBlock-x = IsBlock-number 0x40000000000000000000000000000000

x_block_bits : block_bits x_block ≡ x_bits
unfolding x_block x_bits block_bits bits_high_first
x_block_bits = refl

x_back : squared 128 x_block ≡ x_block
x_back =
    same_blocks _ x_block (IsBlock-squared 128 x_block IsBlock-x) IsBlock-x
    (squared_is 128 x_block IsBlock-x ∙ ap (squared_bits even_powers 128) x_block_bits ∙ x_squared ∙ sym x_block_bits)

multiple-zeros : (n : ℕ) (f : Series) → multiple (replicate n false) f ≡ none
multiple-zeros zero f = refl
multiple-zeros (suc n) f = ap X (multiple-zeros n f) ∙ mul_x-none 127 (modulus block_taps 128)

times-x : (f : Series) → block_times x_block f ≡ X f
unfolding x_bits
times-x f =
    ap (λ p. multiple p f) x_block_bits
    ∙ ap (λ s. X (add f s)) (ap X (multiple-zeros 126 f) ∙ mul_x-none 127 (modulus block_taps 128))
    ∙ ap X (add_none f)

-- a block is its polynomial's value at x
series-at_x : (p : List Bool) → series (bits_at x_block p) ≡ multiple p one
series-at_x [] = series-zero
series-at_x (b ∷ p) =
    let s = bits_at x_block p in
    series-xor _ _ (IsBlock-unit_or_zero b).size (Sized-product x_block s)
    ∙ ap₂ add
    (series-unit_or_zero b)
    (series-product x_block s IsBlock-x.size (IsBlock-bits_at x_block p).size ∙ times-x _ ∙ ap X (series-at_x p))

at_x : (a : List ℕ) → IsBlock a → bits_at x_block (block_bits a) ≡ a
at_x a is_a =
    same_from_series _ a (IsBlock-bits_at x_block _) is_a
    (series-at_x (block_bits a) ∙ multiple_of_one a is_a.size)

squared_back : (a : List ℕ) → IsBlock a → squared 128 a ≡ a
squared_back a is_a =
    let p = block_bits a in
    ap (squared 128) (sym (at_x a is_a)) ∙ squared-bits_at 128 x_block p IsBlock-x ∙ ap (λ y. bits_at y p) x_back ∙ at_x a is_a

-- ---- a^(2^n - 1), whose product with a is a^(2^n)

lower_power : ℕ → List ℕ → List ℕ
lower_power zero a = unit_block
lower_power (suc n) a = (lower_power n a • lower_power n a) • a

Sized-lower : (n : ℕ) (a : List ℕ) → Sized (lower_power n a)
unfolding lower_power
Sized-lower zero a = refl
Sized-lower (suc n) a = Sized-product _ a

lower_times : (n : ℕ) (a : List ℕ) → IsBlock a → lower_power n a • a ≡ squared n a
unfolding lower_power
lower_times zero a is_a = product_comm unit_block a refl is_a.size ∙ product_unit a is_a
lower_times (suc n) a is_a =
    let t = lower_power n a in
    let st = Sized-lower n a in
    product_assoc _ a a (Sized-product t t) is_a.size is_a.size
    ∙ product_four t t a a st st is_a.size is_a.size
    ∙ ap₂ ◌•◌ (lower_times n a is_a) (lower_times n a is_a)

pub has_inverse : (a : List ℕ) → IsBlock a → a ≢ zero_block → HasInverse a
unfolding lower_power
has_inverse a is_a some =
    let q = lower_power 127 a in
    let u = q • q in
    let t = u • a in
    let sa = is_a.size in
    let su = Sized-product q q in
    let back = lower_times 128 a is_a ∙ squared_back a is_a in
    let own = product_left_swap t u a (Sized-product u a) su sa ∙ ap (λ x. u • x) back in
    ⊎_elim
    (λ (e : t ≡ zero_block).
    absurd (some (sym back ∙ ap (λ x. x • a) e ∙ product_comm zero_block a refl sa ∙ product_zero a sa)))
    (λ (e : t ≡ unit_block). let w : HasInverse a = (u, IsBlock-product q q, product_comm a u sa su ∙ e) in w)
    (own_square t (IsBlock-product u a) own)
