-- The ring of blocks: blocks that cancel, in a sum, and in a product with a block that has an inverse; GHASH of one block more,
-- and as a polynomial in the hash subkey: the blocks are its coefficients, the last that of the first power.
use Rattle.std.proofs.Common.{◌≡◌, ℕ, zero, suc, ◌+◌, ◌-◌, ◌<◌, Bool, true, false, List, [], ◌∷◌, ◌++◌, length, get_or, replicate, flat_map, refl, sym, ap, ap₂, ◌∙◌, arith, length-append, reverse}
use Rattle.aead_ciphers_base.proofs
use proofs.XorLemmas.{bytes-xor, length-xor, xor_assoc, xor_comm, xor_exchange, xor_zeros, xor-xor}
use Rattle.aead_ciphers_base.specs.Polynomial.{◌xor◌, coefficient}
use Rattle.aead_ciphers.specs
use specs.Bytes.{◌⊕◌, zero_block}
use specs.Ghash.{IsBlock, block_bits, ◌•◌, unit_block, power, ghash, AllSized, xor_blocks, block_taps}
use proofs.PolynomialBits.{add, same_series, same_steps}
use proofs.PolynomialLaws.{horner-add, times_swap, modulus, one, times_one}
use Rattle.aead_ciphers.proofs.GhashBlocks.{block_bits-is, series, block_times, same_from_series, series-product, IsBlock-product, length-block_bits, IsBlock-number}
use Rattle.aead_ciphers.proofs.GhashBits.{bits-xor, length-bits, bits_high_first}
use proofs.PolynomialSums.{polynomial_sum, coefficient-polynomial_sum}
use Rattle.aead_ciphers.proofs.ProductLoop.{block_low, zeros_end}
use Rattle.std.specs.Fn.{iterate}
use Rattle.std.specs.Int.Bits.{xor_self as number_self}
use specs.Different.{HasInverse}
use Rattle.std.proofs.lemmas.List.{reverse-append, reverse-reverse}
use Rattle.aead_ciphers.proofs.PaddedBlocks.{AllSized-blocks, Blocks, Each-reverse}

-- ---- XOR of blocks is XOR of coefficients

sum-append : (p q r s : List Bool) → length p ≡ length q → polynomial_sum (p ++ r) (q ++ s) ≡ polynomial_sum p q ++ polynomial_sum r s
sum-append [] [] r s e = refl
sum-append (a ∷ p) (b ∷ q) r s e = ap (λ t. (a xor b) ∷ t) (sum-append p q r s (omega arith))
sum-append _ _ r s e = absurd (omega arith)

flat-xor : (a b : List ℕ) → length a ≡ length b
    → flat_map (bits_high_first 8) (a ⊕ b) ≡ polynomial_sum (flat_map (bits_high_first 8) a) (flat_map (bits_high_first 8) b)
flat-xor [] [] e = refl
flat-xor (x ∷ xs) (y ∷ ys) e =
    ap₂ (λ p q. p ++ q) (bits-xor 8 x y) (flat-xor xs ys (omega arith))
    ∙ sym (sum-append (bits_high_first 8 x) _ _ _
    (length-bits 8 x ∙ sym (length-bits 8 y)))
flat-xor _ _ e = absurd (omega arith)

-- 16 numbers
abbrev pub Sized : List ℕ → Type 0
Sized a = length a ≡ 16

pub Sized-xor : (a b : List ℕ) → Sized a → Sized b → Sized (a ⊕ b)
Sized-xor a b size_a size_b = length-xor a b (omega arith) ∙ size_a

pub IsBlock-xor : (a b : List ℕ) → IsBlock a → IsBlock b → IsBlock (a ⊕ b)
IsBlock-xor a b is_a is_b = record {
  size = Sized-xor a b is_a.size is_b.size;
  bytes = bytes-xor a b is_a.bytes is_b.bytes;
}

pub series-xor : (a b : List ℕ) → Sized a → Sized b → series (a ⊕ b) ≡ add (series a) (series b)
series-xor a b is_a is_b =
    let e = is_a ∙ sym is_b in
    ap coefficient (block_bits-is (a ⊕ b) ∙ flat-xor a b e ∙ ap₂ polynomial_sum (sym (block_bits-is a)) (sym (block_bits-is b)))
    ∙ same_series (coefficient-polynomial_sum (block_bits a) _)

-- ---- the unit

pub unit_bits : block_bits unit_block ≡ true ∷ replicate 127 false
unfolding block_bits
unit_bits = refl

pub series-unit : series unit_block ≡ one
series-unit = ap coefficient unit_bits ∙ same_steps _ _ refl (λ k. zeros_end 127 k)

pub xor_zero : (a : List ℕ) → Sized a → a ⊕ zero_block ≡ a
xor_zero a size = xor_zeros a 16 size

-- ---- the product, of lists of 16

pub multiple_of_one : (a : List ℕ) → Sized a → block_times a one ≡ series a
multiple_of_one a size = times_one block_taps 127 block_low _ (let e = length-block_bits a size in omega arith)

pub Sized-product : (a b : List ℕ) → Sized (a • b)
Sized-product a b = (IsBlock-product a b).size

pub product_unit : (a : List ℕ) → IsBlock a → a • unit_block ≡ a
product_unit a is_a =
    same_from_series _ a (IsBlock-product a unit_block) is_a
    (series-product a unit_block is_a.size refl ∙ ap (block_times a) series-unit ∙ multiple_of_one a is_a.size)

pub product_comm : (a b : List ℕ) → Sized a → Sized b → a • b ≡ b • a
product_comm a b is_a is_b =
    same_from_series _ _ (IsBlock-product a b) (IsBlock-product b a)
    (series-product a b is_a is_b ∙ ap (block_times a) (sym (multiple_of_one b is_b))
    ∙ times_swap 127 (modulus block_taps 128) _ _ one
    ∙ ap (block_times b) (multiple_of_one a is_a) ∙ sym (series-product b a is_b is_a))

pub product_left_swap : (a b c : List ℕ) → Sized a → Sized b → Sized c → a • (b • c) ≡ b • (a • c)
product_left_swap a b c is_a is_b is_c =
    same_from_series _ _ (IsBlock-product a _) (IsBlock-product b _)
    (series-product a _ is_a (Sized-product b c) ∙ ap (block_times a) (series-product b c is_b is_c)
    ∙ times_swap 127 (modulus block_taps 128) _ _ (series c)
    ∙ sym (series-product b _ is_b (Sized-product a c) ∙ ap (block_times b) (series-product a c is_a is_c)))

pub product_assoc : (a b c : List ℕ) → Sized a → Sized b → Sized c → (a • b) • c ≡ a • (b • c)
product_assoc a b c is_a is_b is_c =
    product_comm _ c (Sized-product a b) is_c ∙ product_left_swap c a b is_c is_a is_b ∙ ap (λ x. a • x) (product_comm c b is_c is_b)

pub product_xor_right : (a b c : List ℕ) → Sized a → Sized b → Sized c → a • (b ⊕ c) ≡ (a • b) ⊕ (a • c)
product_xor_right a b c is_a is_b is_c =
    same_from_series _ _ (IsBlock-product a _) (IsBlock-xor (a • b) _ (IsBlock-product a b) (IsBlock-product a c))
    (series-product a _ is_a (Sized-xor b c is_b is_c) ∙ ap (block_times a) (series-xor b c is_b is_c)
    ∙ horner-add 127 (modulus block_taps 128) (length (block_bits a)) (series a) (series b) (series c)
    ∙ sym (series-xor (a • b) _ (Sized-product a b) (Sized-product a c) ∙ ap₂ add (series-product a b is_a is_b) (series-product a c is_a is_c)))

pub product_xor_left : (a b c : List ℕ) → Sized a → Sized b → Sized c → (a ⊕ b) • c ≡ (a • c) ⊕ (b • c)
product_xor_left a b c is_a is_b is_c =
    product_comm _ c (Sized-xor a b is_a is_b) is_c ∙ product_xor_right c a b is_c is_a is_b
    ∙ ap₂ (λ x y. x ⊕ y) (product_comm c a is_c is_a) (product_comm c b is_c is_b)

-- ---- GHASH

pub AllSized-append : (xs ys : List (List ℕ)) → AllSized xs → AllSized ys → AllSized (xs ++ ys)
AllSized-append [] ys h j = j
AllSized-append (x ∷ xs) ys h j = (h.0, AllSized-append xs ys h.1 j)

-- p, multiplied n times by h
abbrev times_power : List ℕ → ℕ → List ℕ → List ℕ
times_power h n p = iterate (λ q. q • h) n p

Sized-times_power : (h : List ℕ) (n : ℕ) (p : List ℕ) → Sized p → Sized (times_power h n p)
Sized-times_power h zero p is_p = is_p
Sized-times_power h (suc n) p is_p = Sized-times_power h n (p • h) (Sized-product p h)

pub Sized-power : (h : List ℕ) (k : ℕ) → Sized h → Sized (power h k)
Sized-power h k is_h = Sized-times_power h (k - 1) h is_h

times_power-last : (h : List ℕ) (n : ℕ) (p : List ℕ) → times_power h (suc n) p ≡ times_power h n p • h
times_power-last h zero p = refl
times_power-last h (suc n) p = times_power-last h n (p • h)

power-next : (h : List ℕ) (n : ℕ) → power h (n + 1 + 1) ≡ power h (n + 1) • h
power-next h n =
    let more : n + 1 + 1 - 1 ≡ suc n = omega arith in
    let same : n ≡ n + 1 - 1 = omega arith in
    ap (λ k. times_power h k h) more ∙ times_power-last h n h ∙ ap (λ k. times_power h k h • h) same

pub Sized-ghash : (h : List ℕ) (xs : List (List ℕ)) → Sized h → AllSized xs → Sized (ghash h xs)
unfolding ghash
Sized-ghash h [] is_h all = refl
Sized-ghash h (x ∷ xs) is_h all =
    Sized-xor _ _ (Sized-product x _) (Sized-ghash h xs is_h all.1)

-- one block more
pub ghash_more : (h : List ℕ) (xs : List (List ℕ)) (x : List ℕ) → Sized h → AllSized xs → Sized x → ghash h (xs ++ (x ∷ [])) ≡ (ghash h xs ⊕ x) • h
unfolding ghash ◌•◌
ghash_more h [] x is_h all is_x =
    xor_zero _ (Sized-product x h)
    ∙ ap (λ y. y • h) (sym (xor_comm zero_block x ∙ xor_zero x is_x))
ghash_more h (y ∷ ys) x is_h all is_x =
    let n = length ys in
    let p = power h (n + 1) in
    let is_p = Sized-power h (n + 1) is_h in
    let g = ghash h ys in
    let is_g = Sized-ghash h ys is_h all.1 in
    let is_yp = Sized-product y p in
    let count : length (ys ++ (x ∷ [])) ≡ n + 1 = length-append ys (x ∷ []) in
    ap₂ (λ k r. (y • power h (k + 1)) ⊕ r) count (ghash_more h ys x is_h all.1 is_x)
    ∙ ap (λ r. r ⊕ ((g ⊕ x) • h)) (ap (λ q. y • q) (power-next h n) ∙ sym (product_assoc y p h all.0 is_p is_h))
    ∙ sym (product_xor_left (y • p) _ h is_yp (Sized-xor g x is_g is_x) is_h)
    ∙ ap (λ r. r • h) (sym (xor_assoc (y • p) g x))

pub length-xor_blocks : (xs ys : List (List ℕ)) → length xs ≡ length ys → length (xor_blocks xs ys) ≡ length xs
length-xor_blocks [] [] e = refl
length-xor_blocks (x ∷ xs) (y ∷ ys) e = ap suc (length-xor_blocks xs ys (omega arith))
length-xor_blocks _ _ e = absurd (omega arith)

pub ghash_xor : (h : List ℕ) (xs ys : List (List ℕ)) → Sized h → AllSized xs → AllSized ys → length xs ≡ length ys
    → ghash h (xor_blocks xs ys) ≡ ghash h xs ⊕ ghash h ys
unfolding ghash
ghash_xor h [] [] is_h all_x all_y e = sym (xor_zero zero_block refl)
ghash_xor h (x ∷ xs) (y ∷ ys) is_h all_x all_y e =
    let same : length xs ≡ length ys = omega arith in
    let p = power h (length xs + 1) in
    let is_p = Sized-power h (length xs + 1) is_h in
    ap₂ (λ k r. ((x ⊕ y) • power h (k + 1)) ⊕ r) (length-xor_blocks xs ys same) (ghash_xor h xs ys is_h all_x.1 all_y.1 same)
    ∙ ap (λ r. r ⊕ (ghash h xs ⊕ ghash h ys)) (product_xor_left x y p all_x.0 all_y.0 is_p)
    ∙ xor_exchange (x • p) (y • p) (ghash h xs) (ghash h ys)
    ∙ ap (λ k. ((x • p) ⊕ ghash h xs) ⊕ ((y • power h (k + 1)) ⊕ ghash h ys)) same
ghash_xor h _ _ is_h all_x all_y e = absurd (omega arith)

pub AllSized-from : (xs : List (List ℕ)) → ((i : ℕ) → i < length xs → length (get_or xs i []) ≡ 16) → AllSized xs
AllSized-from [] h = tt
AllSized-from (x ∷ xs) h = (h 0 (omega arith), AllSized-from xs (λ i below. h (suc i) (omega arith)))

-- the lemma, for the search of a function
pub ruleset sized_from = (AllSized-from)

-- ---- blocks that cancel

pub IsBlock-zero : IsBlock zero_block
IsBlock-zero = IsBlock-number 0

pub IsBlock-unit : IsBlock unit_block
IsBlock-unit = IsBlock-number 0x80000000000000000000000000000000

zeros_of_xor : (n : ℕ) (a : List ℕ) → length a ≡ n → a ⊕ a ≡ replicate n 0
zeros_of_xor zero [] e = refl
zeros_of_xor (suc n) (x ∷ xs) e = ap₂ (λ z zs. z ∷ zs) (number_self x) (zeros_of_xor n xs (omega arith))
zeros_of_xor _ _ e = absurd (omega arith)

pub xor_self : (a : List ℕ) → Sized a → a ⊕ a ≡ zero_block
xor_self a size = zeros_of_xor 16 a size

pub cancel_right : (a b c : List ℕ) → Sized a → Sized b → Sized c → a ⊕ c ≡ b ⊕ c → a ≡ b
cancel_right a b c sa sb sc e = sym (xor-xor a c (omega arith)) ∙ ap (λ x. x ⊕ c) e ∙ xor-xor b c (omega arith)

pub cancel_left : (a b c : List ℕ) → Sized a → Sized b → Sized c → c ⊕ a ≡ c ⊕ b → a ≡ b
cancel_left a b c sa sb sc e = cancel_right a b c sa sb sc (xor_comm a c ∙ e ∙ xor_comm c b)

pub same_of_xor : (a b : List ℕ) → Sized a → Sized b → a ⊕ b ≡ zero_block → a ≡ b
same_of_xor a b sa sb e = cancel_right a b b sa sb sb (e ∙ sym (xor_self b sb))

pub product_zero : (a : List ℕ) → Sized a → a • zero_block ≡ zero_block
product_zero a size = product_xor_right a zero_block zero_block size refl refl ∙ xor_self _ (Sized-product a zero_block)

pub cancel_factor : (a x y : List ℕ) → Sized a → HasInverse a → IsBlock x → IsBlock y → a • x ≡ a • y → x ≡ y
cancel_factor a x y size inverse is_x is_y e =
    let b = inverse.0 in
    let sb = inverse.1.size in
    let back : (z : List ℕ) → IsBlock z → b • (a • z) ≡ z =
    λ z is_z.
    sym (product_assoc b a z sb size is_z.size)
    ∙ product_comm _ z (Sized-product b a) is_z.size
    ∙ ap (λ u. z • u) (product_comm b a sb size ∙ inverse.2)
    ∙ product_unit z is_z in
    sym (back x is_x) ∙ ap (λ u. b • u) e ∙ back y is_y

-- ---- GHASH as a polynomial

-- the value at h of the polynomial with these coefficients, the constant one first
abbrev pub value_at : List ℕ → List (List ℕ) → List ℕ
value_at h [] = zero_block
value_at h (c ∷ cs) = c ⊕ h • value_at h cs

pub IsBlock-value : (h : List ℕ) (cs : List (List ℕ)) → Blocks cs → IsBlock (value_at h cs)
IsBlock-value h [] all = IsBlock-zero
IsBlock-value h (c ∷ cs) all = IsBlock-xor c _ all.0 (IsBlock-product h _)

ghash-reverse : (h : List ℕ) (cs : List (List ℕ)) → Sized h → Blocks cs → ghash h (reverse cs) ≡ h • value_at h cs
unfolding ghash
ghash-reverse h [] sh all = sym (product_zero h sh)
ghash-reverse h (c ∷ cs) sh all =
    let v = h • value_at h cs in
    ap (ghash h) (reverse-append (c ∷ []) cs)
    ∙ ghash_more h (reverse cs) c sh (AllSized-blocks (reverse cs) (Each-reverse IsBlock cs all.1)) all.0.size
    ∙ ap (λ x. (x ⊕ c) • h) (ghash-reverse h cs sh all.1)
    ∙ product_comm _ h (Sized-xor v c (Sized-product h _) all.0.size) sh
    ∙ ap (λ x. h • x) (xor_comm v c)

pub ghash_value : (h : List ℕ) (xs : List (List ℕ)) → Sized h → Blocks xs → ghash h xs ≡ h • value_at h (reverse xs)
ghash_value h xs sh all = ap (ghash h) (sym (reverse-reverse xs)) ∙ ghash-reverse h _ sh (Each-reverse IsBlock xs all)
