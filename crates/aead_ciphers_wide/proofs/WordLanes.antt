-- The lanes of the words that operators return.
use Rattle.std.proofs.Common.{◌≡◌, ℕ, zero, suc, ◌+◌, ◌-◌, ◌*◌, ◌/◌, ◌%◌, ◌^◌, ◌<◌, List, [], ◌∷◌, replicate, slice_index, shr-shr, refl, sym, subst, ap, ap₂, ◌∙◌, arith, bit_xor, bit_and}
use Rattle.std.specs.Int.{bit_at}
use Rattle.std.specs.Simd.Lanes.{zip2, number_l, Each1}
use Rattle.std.proofs.lemmas.List.{length-replicate}
use Rattle.std.proofs.lemmas.Simd.{get_or-replicate, get_or-zip2}
use Rattle.std.proofs.lemmas.Nat.{xor_shr, xor_mod, and_shr, and_mod}
use Rattle.std.proofs.lemmas.Nat.Bits.{bit_at_ones}
use Rattle.std.proofs.Math.Nat.{zero-div}
use Rattle.aead_ciphers_base.proofs.NumberBits.{bit_at-mod, bit_at-shr}
use Rattle.aead_ciphers_wide.specs.Word.{lane_of, lanes_of}
use Rattle.aead_ciphers_wide.proofs.WordOperators.{AreLanes}

pub lane-xor : (j a b : ℕ) → lane_of j (bit_xor a b) ≡ bit_xor (lane_of j a) (lane_of j b)
lane-xor j a b = ap (λ t. t % 2 ^ 64) (xor_shr a b (64 * j)) ∙ xor_mod (a / 2 ^ (64 * j)) (b / 2 ^ (64 * j)) 64

pub lane-and : (j a b : ℕ) → lane_of j (bit_and a b) ≡ bit_and (lane_of j a) (lane_of j b)
lane-and j a b = ap (λ t. t % 2 ^ 64) (and_shr a b (64 * j)) ∙ and_mod (a / 2 ^ (64 * j)) (b / 2 ^ (64 * j)) 64

-- a lane of the number that has the lanes
pub lane_is : (xs : List ℕ) → Each1 (λ x. x < 2 ^ 64) xs → (j : ℕ) → lane_of j (number_l (2 ^ 64) xs) ≡ slice_index xs j
lane_is [] h j = ap (λ t. t % 2 ^ 64) (zero-div (2 ^ (64 * j)))
lane_is (x ∷ xs) h zero = omega (arith, h.0)
lane_is (x ∷ xs) h (suc j) =
    let n = x + 2 ^ 64 * number_l (2 ^ 64) xs in
    let rest : n / 2 ^ 64 ≡ number_l (2 ^ 64) xs = omega (arith, h.0) in
    let place : 64 + 64 * j ≡ 64 * suc j = omega arith in
    ap (λ t. t % 2 ^ 64) (ap (λ t. n / 2 ^ t) (sym place) ∙ sym (shr-shr n 64 (64 * j)) ∙ ap (λ t. t / 2 ^ (64 * j)) rest)
    ∙ lane_is xs h.1 j

-- a lane of an operation of each lane with the same number
pub lane_with : (f : ℕ → ℕ → ℕ) (n m k : ℕ) (xs : List ℕ) → AreLanes n xs → AreLanes n (zip2 f xs (replicate n m)) → m ≡ k
    → (j : ℕ) → j < n → lane_of j (number_l (2 ^ 64) (zip2 f xs (replicate n m))) ≡ f (lane_of j (number_l (2 ^ 64) xs)) k
lane_with f n m k xs is made e j h =
    lane_is (zip2 f xs (replicate n m)) made.1 j
    ∙ get_or-zip2 f xs (replicate n m) j 0 0 0 (omega (arith, is.0)) (subst (λ l. j < l) (sym (length-replicate n m)) h)
    ∙ ap₂ f (sym (lane_is xs is.1 j)) (get_or-replicate n j m 0 h ∙ e)

each_small : (n m : ℕ) → m < 2 ^ 64 → Each1 (λ x. x < 2 ^ 64) (replicate n m)
each_small zero m h = tt
each_small (suc n) m h = (h, each_small n m h)

pub lane_splat : (n m : ℕ) → m < 2 ^ 64 → (j : ℕ) → j < n → lane_of j (number_l (2 ^ 64) (replicate n m)) ≡ m
lane_splat n m fits j h = lane_is (replicate n m) (each_small n m fits) j ∙ get_or-replicate n j m 0 h

-- the first and the second number that a delta swap gives, in a lane
module _ (j s m a b shifted mask delta : ℕ) (is_shifted : lane_of j shifted ≡ lane_of j a / 2 ^ s) (is_mask : lane_of j mask ≡ m)
    (is_delta : delta ≡ bit_and (bit_xor shifted b) mask) where
  delta_lane : lane_of j delta ≡ bit_and (bit_xor (lane_of j a / 2 ^ s) (lane_of j b)) m
  delta_lane =
      ap (lane_of j) is_delta ∙ lane-and j (bit_xor shifted b) mask
      ∙ ap₂ bit_and (lane-xor j shifted b ∙ ap (λ t. bit_xor t (lane_of j b)) is_shifted) is_mask

  pub swap_first : (back first : ℕ) → lane_of j back ≡ lane_of j delta * 2 ^ s % 2 ^ 64 → first ≡ bit_xor a back
      → lane_of j first ≡ bit_xor (lane_of j a) (bit_and (bit_xor (lane_of j a / 2 ^ s) (lane_of j b)) m * 2 ^ s % 2 ^ 64)
  swap_first back first is_back is_first =
      ap (lane_of j) is_first ∙ lane-xor j a back
      ∙ ap (bit_xor (lane_of j a)) (is_back ∙ ap (λ t. t * 2 ^ s % 2 ^ 64) delta_lane)

  pub swap_second : (second : ℕ) → second ≡ bit_xor b delta
      → lane_of j second ≡ bit_xor (lane_of j b) (bit_and (bit_xor (lane_of j a / 2 ^ s) (lane_of j b)) m)
  swap_second second is_second = ap (lane_of j) is_second ∙ lane-xor j b delta ∙ ap (bit_xor (lane_of j b)) delta_lane

pub lanes_at : (j : ℕ) (words : List ℕ) (i : ℕ) → slice_index (lanes_of j words) i ≡ lane_of j (slice_index words i)
lanes_at j [] i = sym (ap (λ t. t % 2 ^ 64) (zero-div (2 ^ (64 * j))))
lanes_at j (w ∷ words) zero = refl
lanes_at j (w ∷ words) (suc i) = lanes_at j words i

pub lane_bit : (j w q : ℕ) → q < 64 → bit_at (lane_of j w) q ≡ bit_at w (64 * j + q)
lane_bit j w q h =
    let place : q + 64 * j ≡ 64 * j + q = omega arith in
    bit_at-mod _ 64 q h ∙ bit_at-shr w (64 * j) q ∙ ap (bit_at w) place

-- a word each of whose lanes has all bits
pub all_ones : (n w : ℕ) → ((j : ℕ) → j < n → lane_of j w ≡ 2 ^ 64 - 1) → (p : ℕ) → p < 64 * n → bit_at w p ≡ 1
all_ones n w full p h =
    let place : 64 * (p / 64) + p % 64 ≡ p = omega arith in
    ap (bit_at w) (sym place) ∙ sym (lane_bit (p / 64) w (p % 64) (omega arith))
    ∙ ap (λ t. bit_at t (p % 64)) (full (p / 64) (omega arith)) ∙ bit_at_ones 64 (p % 64) (omega arith)
