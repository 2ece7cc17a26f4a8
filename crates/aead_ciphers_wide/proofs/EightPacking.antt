-- Eight blocks as planes of 128 bits.
use Rattle.std.proofs.Common.{◌≡◌, ℕ, zero, suc, ◌+◌, ◌*◌, ◌/◌, ◌%◌, ◌^◌, ◌<◌, List, slice_index, refl, sym, ap, ap₂, ◌∙◌, arith, div-one, ◌==◌, false}
use Rattle.std.specs.Int.{bit_at, to_le_bytes, w128}
use Rattle.std.proofs.lemmas.List.FromFn.{fill_by_all}
use Rattle.aead_ciphers_base.specs.ByteField.{bits_of, value_of}
use Rattle.aead_ciphers_base.specs.Planes.{block_at, plane_byte, word_bit}
use Rattle.aead_ciphers_wide.specs.WidePlanes.{wide_block}
use Rattle.aead_ciphers_wide.specs.Word.{lanes_of}
use Rattle.aead_ciphers_base.proofs.NumberBits.{bit_at-mod, bit_at-shr, value_of-bits_of}
use Rattle.aead_ciphers_base.proofs.PlaneBits.{bits_of_at}
use Rattle.aead_ciphers_base.proofs.PlaneBlocks.{state_is}
use Rattle.aead_ciphers_base.proofs.EachLemmas.{get_or-each}
use Rattle.aead_ciphers_base.proofs.PlanePacking.{bits_from, word_bit-at}
use Rattle.aead_ciphers_wide.proofs.WordLanes.{lane_bit, lanes_at}

pub byte_is : (n j : ℕ) → j < 16 → slice_index (to_le_bytes w128 n) j ≡ n / 2 ^ (8 * j) % 2 ^ 8
byte_is n zero h = ap (λ t. t % 256) (sym (div-one n))
byte_is n (suc j) h = get_or-each 16 (λ i. n / 2 ^ (8 * i) % 2 ^ 8) (suc j) 0 h

-- byte j of a word that has there the bits of the planes at p
byte_of_planes : (word j p : ℕ) (planes : List ℕ) → j < 16 → ((b : ℕ) → b < 8 → bit_at word (8 * j + b) ≡ bit_at (slice_index planes b) p)
    → slice_index (to_le_bytes w128 word) j ≡ plane_byte planes p
unfolding plane_byte
byte_of_planes word j p planes hj same =
    let n = word / 2 ^ (8 * j) % 2 ^ 8 in
    byte_is word j hj ∙ sym (value_of-bits_of 8 n (omega arith))
    ∙ ap value_of (fill_by_all (λ b. bit_at (slice_index planes b) p == 1) (bits_of 8 n) 8 false refl
    (λ b hb.
    let place : b + 8 * j ≡ 8 * j + b = omega arith in
    bits_of_at 8 n b hb ∙ ap (λ t. t == 1) (bit_at-mod _ 8 b hb ∙ bit_at-shr word (8 * j) b ∙ ap (bit_at word) place ∙ same b hb)))

-- in each lane, bit b of each byte of word i is bit i of that byte of plane b
abbrev pub AreTransposed : List ℕ → List ℕ → Type 0
AreTransposed words planes = (j n : ℕ) → j < 2 → n < 512 → word_bit (lanes_of j planes) n ≡ word_bit (lanes_of j words) (bits_from n)

bit_of_word : (j : ℕ) (words : List ℕ) (i q n : ℕ) → q < 64 → n ≡ 64 * i + q → word_bit (lanes_of j words) n ≡ bit_at (slice_index words i) (64 * j + q)
bit_of_word j words i q n h e =
    word_bit-at (lanes_of j words) i q n h e ∙ ap (λ w. bit_at w q) (lanes_at j words i) ∙ lane_bit j (slice_index words i) q h

transposed_bit : (words planes : List ℕ) → AreTransposed words planes → (p b : ℕ) → p < 128 → b < 8
    → bit_at (slice_index planes b) p ≡ bit_at (slice_index words (p % 8)) (8 * (p / 8) + b)
transposed_bit words planes h p b hp hb =
    let j = p / 64 in
    let q = p % 64 in
    let here : 64 * j + q ≡ p = omega arith in
    let there : 64 * j + (8 * (q / 8) + b) ≡ 8 * (p / 8) + b = omega arith in
    ap (bit_at (slice_index planes b)) (sym here)
    ∙ sym (bit_of_word j planes b q (64 * b + q) (omega arith) refl)
    ∙ h j (64 * b + q) (omega arith) (omega arith)
    ∙ bit_of_word j words (p % 8) (8 * (q / 8) + b) (bits_from (64 * b + q)) (omega arith) (omega arith)
    ∙ ap (bit_at (slice_index words (p % 8))) there

pub packed_eight : (words planes : List ℕ) → AreTransposed words planes → (k : ℕ) → k < 8
    → wide_block planes k ≡ to_le_bytes w128 (slice_index words k)
unfolding block_at
packed_eight words planes h k hk =
    sym (state_is (λ r c. plane_byte planes (8 * (r + 4 * c) + k)) (to_le_bytes w128 (slice_index words k)) refl
    (λ j hj.
    let p = 8 * (j % 4 + 4 * (j / 4)) + k in
    byte_of_planes (slice_index words k) j p planes hj
    (λ b hb.
    let word : p % 8 ≡ k = omega arith in
    let place : 8 * (p / 8) + b ≡ 8 * j + b = omega arith in
    sym (transposed_bit words planes h p b (omega arith) hb ∙ ap₂ (λ i t. bit_at (slice_index words i) t) word place))))

pub unpacked_eight : (planes words : List ℕ) → AreTransposed planes words → (k : ℕ) → k < 8
    → to_le_bytes w128 (slice_index words k) ≡ wide_block planes k
unfolding block_at
unpacked_eight planes words h k hk =
    state_is (λ r c. plane_byte planes (8 * (r + 4 * c) + k)) _ refl
    (λ j hj.
    let place : 8 * j + k ≡ 8 * (j % 4 + 4 * (j / 4)) + k = omega arith in
    byte_of_planes (slice_index words k) j (8 * j + k) planes hj
    (λ b hb.
    let plane : (8 * j + b) % 8 ≡ b = omega arith in
    let byte : 8 * ((8 * j + b) / 8) + k ≡ 8 * j + k = omega arith in
    transposed_bit planes words h (8 * j + b) k (omega arith) hk ∙ ap₂ (λ i t. bit_at (slice_index planes i) t) plane byte)
    ∙ ap (plane_byte planes) place)
