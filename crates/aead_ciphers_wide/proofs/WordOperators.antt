-- Operators on the lanes of a word, as operators on its number.
use Rattle.std.proofs.Common.{◌≡◌, ℕ, zero, suc, ◌+◌, ◌*◌, ◌/◌, ◌%◌, ◌^◌, ◌<◌, List, [], ◌∷◌, ◌++◌, length, replicate, refl, sym, ap, ap₂, ◌∙◌, arith}
use Rattle.std.specs.Simd.Lanes.{zip2, number_l, pick_l, Each1}
use lib.Bits.{bit_xor, bit_and}
use Rattle.std.proofs.Math.Nat.{div-le_self}
use Rattle.std.proofs.lemmas.Nat.{xor_block, xor_lt, and_block, and_le_l}

-- n lanes of 64 bits
abbrev pub AreLanes : ℕ → List ℕ → Type 0
AreLanes n lanes = (length lanes ≡ n) × Each1 (λ x. x < 2 ^ 64) lanes

module _ (f : ℕ → ℕ → ℕ) (below : (k a b : ℕ) → a < 2 ^ k → b < 2 ^ k → f a b < 2 ^ k)
    (block : (k a b r s : ℕ) → r < 2 ^ k → s < 2 ^ k → f (a * 2 ^ k + r) (b * 2 ^ k + s) ≡ f a b * 2 ^ k + f r s)
    (none : f 0 0 ≡ 0) where
  pub zip_lanes : (n : ℕ) (xs ys : List ℕ) → AreLanes n xs → AreLanes n ys → AreLanes n (zip2 f xs ys)
  zip_lanes n [] ys h k = h
  zip_lanes n (x ∷ xs) (y ∷ ys) h k =
      let rest = zip_lanes (length xs) xs ys (refl, h.1.1) (omega (arith, h.0, k.0), k.1.1) in
      (omega (arith, rest.0, h.0), (below 64 x y h.1.0 k.1.0, rest.1))
  zip_lanes n (x ∷ xs) [] h k = absurd (omega (arith, h.0, k.0))

  pub zip_number : (n : ℕ) (xs ys : List ℕ) → AreLanes n xs → AreLanes n ys
      → number_l (2 ^ 64) (zip2 f xs ys) ≡ f (number_l (2 ^ 64) xs) (number_l (2 ^ 64) ys)
  zip_number n [] [] h k = sym none
  zip_number n (x ∷ xs) (y ∷ ys) h k =
      let u = number_l (2 ^ 64) xs in
      let v = number_l (2 ^ 64) ys in
      let turn : (a b : ℕ) → a + 2 ^ 64 * b ≡ b * 2 ^ 64 + a = λ a b. omega arith in
      ap (λ t. f x y + 2 ^ 64 * t) (zip_number (length xs) xs ys (refl, h.1.1) (omega (arith, h.0, k.0), k.1.1))
      ∙ turn (f x y) (f u v) ∙ sym (block 64 u v x y h.1.0 k.1.0) ∙ sym (ap₂ f (turn x u) (turn y v))
  zip_number n _ _ h k = absurd (omega (arith, h.0, k.0))

pub and_lt : (k a b : ℕ) → a < 2 ^ k → b < 2 ^ k → bit_and a b < 2 ^ k
and_lt k a b ha hb = omega (arith, and_le_l a b)

pub xor_lanes : (n : ℕ) (xs ys : List ℕ) → AreLanes n xs → AreLanes n ys → AreLanes n (zip2 bit_xor xs ys)
xor_lanes = zip_lanes bit_xor xor_lt xor_block refl

pub xor_number : (n : ℕ) (xs ys : List ℕ) → AreLanes n xs → AreLanes n ys
    → number_l (2 ^ 64) (zip2 bit_xor xs ys) ≡ bit_xor (number_l (2 ^ 64) xs) (number_l (2 ^ 64) ys)
xor_number = zip_number bit_xor xor_lt xor_block refl

pub and_lanes : (n : ℕ) (xs ys : List ℕ) → AreLanes n xs → AreLanes n ys → AreLanes n (zip2 bit_and xs ys)
and_lanes = zip_lanes bit_and and_lt and_block refl

pub and_number : (n : ℕ) (xs ys : List ℕ) → AreLanes n xs → AreLanes n ys
    → number_l (2 ^ 64) (zip2 bit_and xs ys) ≡ bit_and (number_l (2 ^ 64) xs) (number_l (2 ^ 64) ys)
and_number = zip_number bit_and and_lt and_block refl

-- ---- each lane by itself

-- an operation of each lane with the same number
with_same : (f : ℕ → ℕ → ℕ) (m : ℕ) → ((x : ℕ) → x < 2 ^ 64 → f x m < 2 ^ 64)
    → (n : ℕ) (xs : List ℕ) → AreLanes n xs → AreLanes n (zip2 f xs (replicate n m))
with_same f m fits zero [] h = h
with_same f m fits (suc n) (x ∷ xs) h =
    let rest = with_same f m fits n xs (omega (arith, h.0), h.1.1) in (omega (arith, rest.0), (fits x h.1.0, rest.1))
with_same f m fits zero (x ∷ xs) h = absurd (omega (arith, h.0))
with_same f m fits (suc n) [] h = absurd (omega (arith, h.0))

abbrev pub left : ℕ → ℕ → ℕ
left x n = x * 2 ^ n % 2 ^ 64

abbrev pub right : ℕ → ℕ → ℕ
right x n = x / 2 ^ n

pub left_lanes : (m n : ℕ) (xs : List ℕ) → AreLanes n xs → AreLanes n (zip2 left xs (replicate n m))
left_lanes m = with_same left m (λ x h. omega arith)

pub right_lanes : (m n : ℕ) (xs : List ℕ) → AreLanes n xs → AreLanes n (zip2 right xs (replicate n m))
right_lanes m = with_same right m (λ x h. omega (arith, div-le_self x (2 ^ m)))

-- ---- four lanes of two and two

pub joined_lanes : (xs ys : List ℕ) → AreLanes 2 xs → AreLanes 2 ys → AreLanes 4 (pick_l 0 (xs ++ ys) (0 ∷ 1 ∷ 2 ∷ 3 ∷ []))
joined_lanes (a ∷ b ∷ []) (c ∷ d ∷ []) h k = (refl, (h.1.0, (h.1.1.0, (k.1.0, (k.1.1.0, tt)))))
joined_lanes _ _ h k = absurd (omega (arith, h.0, k.0))

pub joined_number : (xs ys : List ℕ) → AreLanes 2 xs → AreLanes 2 ys
    → number_l (2 ^ 64) (pick_l 0 (xs ++ ys) (0 ∷ 1 ∷ 2 ∷ 3 ∷ [])) ≡ number_l (2 ^ 64) ys * 2 ^ 128 + number_l (2 ^ 64) xs
joined_number (a ∷ b ∷ []) (c ∷ d ∷ []) h k = omega arith
joined_number _ _ h k = absurd (omega (arith, h.0, k.0))
