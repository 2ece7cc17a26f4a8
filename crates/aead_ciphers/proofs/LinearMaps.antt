-- Linear maps of numbers of 128 bits over the two elements: a map is the list of its values at 2^127, .., 2, 1.
use Rattle.std.proofs.Common.{◌≡◌, ℕ, zero, suc, ◌^◌, ◌<◌, Bool, true, false, List, [], ◌∷◌, length, map, replicate, refl, sym, ap, ap₂, ◌∙◌, arith, if◌then◌else◌, bit_xor, pow-suc, pow_pos}
use Rattle.std.proofs.Math.Dec.{lit<}
use Rattle.std.specs.Int.Bits.{xor_self, xor_zero_l, xor_zero_r}
use Rattle.std.proofs.lemmas.Nat.{xor_lt}
use Rattle.aead_ciphers_base.specs.Polynomial.{◌xor◌}
use Rattle.aead_ciphers_base.proofs
use proofs.AdditiveLemmas.{xor_four}
use proofs.BytesLemmas.{same_of_xor}
use Rattle.aead_ciphers.proofs.GhashBits.{bits-xor, length-bits, bits_high_first}
use proofs.PolynomialSums.{polynomial_sum}

-- the XOR of those of the numbers whose bit is true
abbrev pub combined : List Bool → List ℕ → ℕ
combined [] ns = 0
combined (b ∷ p) [] = 0
combined (b ∷ p) (n ∷ ns) = bit_xor (if b then n else 0) (combined p ns)

-- the map's value at a number
abbrev pub image : List ℕ → ℕ → ℕ
image ns n = combined (bits_high_first 128 n) ns

chosen-xor : (a b : Bool) (n : ℕ) → (if a xor b then n else 0) ≡ bit_xor (if a then n else 0) (if b then n else 0)
chosen-xor false b n = sym (xor_zero_l (if b then n else 0))
chosen-xor true false n = sym (xor_zero_r n)
chosen-xor true true n = sym (xor_self n)

combined-xor : (p q : List Bool) (ns : List ℕ) → length p ≡ length q → combined (polynomial_sum p q) ns ≡ bit_xor (combined p ns) (combined q ns)
combined-xor [] [] ns e = refl
combined-xor (a ∷ p) (b ∷ q) [] e = refl
combined-xor (a ∷ p) (b ∷ q) (n ∷ ns) e =
    ap₂ bit_xor (chosen-xor a b n) (combined-xor p q ns (omega arith))
    ∙ xor_four (if a then n else 0) (if b then n else 0) (combined p ns) (combined q ns)
combined-xor _ _ ns e = absurd (omega arith)

image-xor : (ns : List ℕ) (m n : ℕ) → image ns (bit_xor m n) ≡ bit_xor (image ns m) (image ns n)
image-xor ns m n =
    ap (λ p. combined p ns) (bits-xor 128 m n)
    ∙ combined-xor _ _ ns (length-bits 128 m ∙ sym (length-bits 128 n))

pub image-zero : (ns : List ℕ) → image ns 0 ≡ 0
image-zero ns = image-xor ns 0 0 ∙ xor_self (image ns 0)

image-chosen : (ns : List ℕ) (b : Bool) (n : ℕ) → image ns (if b then n else 0) ≡ (if b then image ns n else 0)
image-chosen ns false n = image-zero ns
image-chosen ns true n = refl

-- a map after a map
pub image-combined : (ns : List ℕ) (p : List Bool) (ms : List ℕ) → image ns (combined p ms) ≡ combined p (map (image ns) ms)
image-combined ns [] ms = image-zero ns
image-combined ns (b ∷ p) [] = image-zero ns
image-combined ns (b ∷ p) (m ∷ ms) =
    image-xor ns (if b then m else 0) (combined p ms) ∙ ap₂ bit_xor (image-chosen ns b m) (image-combined ns p ms)

-- ---- bits are known by the number that they make

-- 2^(n - 1), .., 2, 1
abbrev pub twos : ℕ → List ℕ
twos zero = []
twos (suc n) = 2 ^ n ∷ twos n

combined-below : (n : ℕ) (p : List Bool) → combined p (twos n) < 2 ^ n
combined-below n [] = pow_pos n
combined-below zero (b ∷ p) = lit< tt
combined-below (suc n) (false ∷ p) =
    let h = combined-below n p in
    xor_lt _ 0 _ (pow_pos (suc n)) (omega (arith, pow-suc 2 n))
combined-below (suc n) (true ∷ p) =
    let h = combined-below n p in
    xor_lt _ _ (combined p _) (omega (arith, pow_pos n, pow-suc 2 n)) (omega (arith, pow-suc 2 n))

pub none_combined : (n : ℕ) (p : List Bool) → length p ≡ n → combined p (twos n) ≡ 0 → p ≡ replicate n false
none_combined zero [] size e = refl
none_combined (suc n) (false ∷ p) size e =
    ap (λ q. false ∷ q) (none_combined n p (omega arith) (sym (xor_zero_l (combined p _)) ∙ e))
none_combined (suc n) (true ∷ p) size e =
    let same = same_of_xor _ (combined p _) e in
    let below = combined-below n p in
    absurd (omega arith)
none_combined _ _ size e = absurd (omega arith)
