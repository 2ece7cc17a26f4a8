-- Four lists side by side in the lanes of vectors.
use Rattle.std.proofs.Common.{refl, ◌≡◌, ℕ, ◌-◌, ◌*◌, ◌/◌, ◌%◌, ◌^◌, ◌<◌, List, [], ◌∷◌, length, slice_index, slice_index_or, bit_or, bit_xor, arith}
use Rattle.std.specs.Simd.Lanes.{zip2}
use Rattle.aead_ciphers_base.specs
use specs.ChaCha20.{xor_rotate}
use specs.Lanes.{lane}
use Rattle.aead_ciphers_base.proofs.EachLemmas.{get_or-each}
use Rattle.aead_ciphers_base.proofs.PlaneBlocks.{by_four}

pub slice_index-lane : (j k : ℕ) (vectors : List (List ℕ)) → k < 16 → slice_index (lane j vectors) k ≡ slice_index (slice_index_or vectors k []) j
slice_index-lane j k vectors h = get_or-each 16 (λ k. slice_index (slice_index_or vectors k []) j) k 0 h

-- two shifts and an OR rotate each lane
pub shifts_rotate : (n : ℕ) (a b : List ℕ) → 0 < n → n < 32 → length a ≡ 4 → length b ≡ 4 → (j : ℕ) → j < 4
    → slice_index (zip2 bit_or
    (zip2 (λ x s. x * 2 ^ s % 2 ^ 32) (zip2 bit_xor a b) (n ∷ n ∷ n ∷ n ∷ []))
    (zip2 (λ x s. x / 2 ^ s) (zip2 bit_xor a b) ((32 - n) ∷ (32 - n) ∷ (32 - n) ∷ (32 - n) ∷ []))) j
    ≡ xor_rotate (slice_index a j) (slice_index b j) n
shifts_rotate n (a0 ∷ a1 ∷ a2 ∷ a3 ∷ []) (b0 ∷ b1 ∷ b2 ∷ b3 ∷ []) low high la lb =
    let left : n % 32 ≡ n = omega arith in
    let right : (32 - n) % 32 ≡ 32 - n = omega arith in
    by_four _ (rw (left, right) refl) (rw (left, right) refl) (rw (left, right) refl) (rw (left, right) refl)
shifts_rotate n _ _ low high la lb = absurd (omega arith)
