-- Planes of 256 bits by their halves, which are planes of 128 bits.
-- ShiftRows and the rotations of MixColumns permute the bytes of each plane, so the rounds are those of `aead_ciphers_base`, at
-- `Word` for eight blocks and at `WiderWord` for sixteen. There they are proved for any `Plane`: here, only the moves of rows and
-- the packing have proofs of their own.
use Rattle.std.proofs.Common.{◌≡◌, ℕ, zero, suc, ◌+◌, ◌*◌, ◌/◌, ◌%◌, ◌^◌, ◌<◌, List, [], ◌∷◌, map, slice_index, shr-shr, refl, sym, ap, ap₂, ◌∙◌, arith, ◌==◌}
use Rattle.std.specs.Int.{bit_at, to_le_bytes, w128}
use Rattle.std.proofs.Math.Nat.{zero-div}
use Rattle.aead_ciphers_base.specs.ByteField.{value_of}
use Rattle.aead_ciphers_base.specs.Planes.{block_at, plane_byte, word_bit, HoldsRound, Moves}
use Rattle.aead_ciphers_base.proofs.NumberBits.{bit_at-mod, bit_at-shr}
use Rattle.aead_ciphers_base.proofs.EachLemmas.{each-same}
use Rattle.aead_ciphers_base.proofs.PlaneBlocks.{state_same}
use Rattle.aead_ciphers_base.proofs.PlanePacking.{bits_from}
use Rattle.aead_ciphers_wide.specs.WidePlanes.{place_of_eight, place_of_sixteen, wide_block, wider_block}
use Rattle.aead_ciphers_wide.specs.Word.{half_of, lane_of, lanes_of, twice}
use Rattle.aead_ciphers_wide.proofs.EightPacking.{AreTransposed, packed_eight, unpacked_eight}

pub half_bit : (h x p : ℕ) → p < 128 → bit_at (half_of h x) p ≡ bit_at x (128 * h + p)
half_bit h x p lt =
    let place : p + 128 * h ≡ 128 * h + p = omega arith in
    bit_at-mod _ 128 p lt ∙ bit_at-shr x (128 * h) p ∙ ap (bit_at x) place

pub half_at : (h : ℕ) (words : List ℕ) (i : ℕ) → slice_index (map (half_of h) words) i ≡ half_of h (slice_index words i)
half_at h [] i = sym (ap (λ t. t % 2 ^ 128) (zero-div (2 ^ (128 * h))))
half_at h (w ∷ words) zero = refl
half_at h (w ∷ words) (suc i) = half_at h words i

twice_at : (words : List ℕ) (i : ℕ) → slice_index (map twice words) i ≡ twice (slice_index words i)
twice_at [] i = refl
twice_at (w ∷ words) zero = refl
twice_at (w ∷ words) (suc i) = twice_at words i

-- the halves of a number that is made of them
pub low_half : (x y : ℕ) → x < 2 ^ 128 → half_of 0 (y * 2 ^ 128 + x) ≡ x
low_half x y hx = omega arith

pub high_half : (x y : ℕ) → x < 2 ^ 128 → y < 2 ^ 128 → half_of 1 (y * 2 ^ 128 + x) ≡ y
high_half x y hx hy = omega arith

-- what holds of each half
pub by_halves : (P : ℕ → Type 0) → P 0 → P 1 → (h : ℕ) → h < 2 → P h
by_halves P low high zero lt = low
by_halves P low high (suc zero) lt = high
by_halves P low high (suc (suc h)) lt = absurd (omega arith)

-- bytes and blocks of the halves of planes
byte_of_half : (h : ℕ) (planes : List ℕ) (p : ℕ) → p < 128
    → plane_byte (map (half_of h) planes) p ≡ plane_byte planes (128 * h + p)
unfolding plane_byte
byte_of_half h planes p lt =
    ap value_of (each-same 8 (λ b. bit_at (slice_index (map (half_of h) planes) b) p == 1)
    (λ b. bit_at (slice_index planes b) (128 * h + p) == 1)
    (λ b _. ap (λ t. t == 1) (ap (λ n. bit_at n p) (half_at h planes b) ∙ half_bit h (slice_index planes b) p lt)))

block_of_half : (planes : List ℕ) (k : ℕ) → k < 16 → wider_block planes k ≡ wide_block (map (half_of (k % 2)) planes) (k / 2)
unfolding block_at
block_of_half planes k hk =
    state_same (λ r c. plane_byte planes (place_of_sixteen k (r + 4 * c)))
    (λ r c. plane_byte (map (half_of (k % 2)) planes) (place_of_eight (k / 2) (r + 4 * c)))
    (λ r c hr hc. sym (byte_of_half (k % 2) planes (8 * (r + 4 * c) + k / 2) (omega arith)))

-- bytes that move in each half
pub halves_move : (from : ℕ → ℕ → ℕ) → ((r c : ℕ) → r < 4 → c < 4 → from r c < 16) → (x y : ℕ)
    → ((h : ℕ) → h < 2 → Moves place_of_eight 8 from (half_of h x) (half_of h y)) → Moves place_of_sixteen 16 from x y
halves_move from within x y moves k r c hk hr hc =
    let below = within r c hr hc in
    sym (half_bit (k % 2) y (8 * (r + 4 * c) + k / 2) (omega arith))
    ∙ moves (k % 2) (omega arith) (k / 2) r c (omega arith) hr hc
    ∙ half_bit (k % 2) x (8 * from r c + k / 2) (omega arith)

pub pairs_move : (from : ℕ → ℕ → ℕ) → ((r c : ℕ) → r < 4 → c < 4 → from r c < 16)
    → (x y low high low' high' : ℕ) → low < 2 ^ 128 → high < 2 ^ 128 → low' < 2 ^ 128 → high' < 2 ^ 128
    → x ≡ high * 2 ^ 128 + low → y ≡ high' * 2 ^ 128 + low'
    → Moves place_of_eight 8 from low low' → Moves place_of_eight 8 from high high' → Moves place_of_sixteen 16 from x y
pairs_move from within x y low high low' high' hl hh hl' hh' ex ey moves_low moves_high =
    let low_x : half_of 0 x ≡ low = omega (arith, ex) in
    let high_x : half_of 1 x ≡ high = omega (arith, ex) in
    let low_y : half_of 0 y ≡ low' = omega (arith, ey) in
    let high_y : half_of 1 y ≡ high' = omega (arith, ey) in
    halves_move from within x y
    (by_halves (λ h. Moves place_of_eight 8 from (half_of h x) (half_of h y)) (rw (low_x, low_y) moves_low) (rw (high_x, high_y) moves_high))

-- ---- packing

half_lane : (h x j : ℕ) → j < 2 → lane_of j (half_of h x) ≡ lane_of (2 * h + j) x
half_lane h x j lt =
    let n = x / 2 ^ (128 * h) in
    let place : 128 * h + 64 * j ≡ 64 * (2 * h + j) = omega arith in
    by_halves (λ j. lane_of j (n % 2 ^ 128) ≡ lane_of j n) (omega arith) (omega arith) j lt
    ∙ ap (λ t. t % 2 ^ 64) (shr-shr x (128 * h) (64 * j) ∙ ap (λ t. x / 2 ^ t) place)

lanes_of_half : (h j : ℕ) → j < 2 → (words : List ℕ) → lanes_of j (map (half_of h) words) ≡ lanes_of (2 * h + j) words
lanes_of_half h j lt [] = refl
lanes_of_half h j lt (w ∷ words) = ap₂ (λ (x : ℕ) (xs : List ℕ). x ∷ xs) (half_lane h w j lt) (lanes_of_half h j lt words)

-- in each of four lanes, bit b of each byte of word i is bit i of that byte of plane b
abbrev pub AreTransposed4 : List ℕ → List ℕ → Type 0
AreTransposed4 words planes =
    (j n : ℕ) → j < 4 → n < 512 → word_bit (lanes_of j planes) n ≡ word_bit (lanes_of j words) (bits_from n)

transposed_half : (words planes : List ℕ) → AreTransposed4 words planes → (h : ℕ) → h < 2
    → AreTransposed (map (half_of h) words) (map (half_of h) planes)
transposed_half words planes t h hh j n hj hn =
    ap (λ l. word_bit l n) (lanes_of_half h j hj planes) ∙ t (2 * h + j) n (omega arith) hn
    ∙ sym (ap (λ l. word_bit l (bits_from n)) (lanes_of_half h j hj words))

pub packed_sixteen : (words planes : List ℕ) → AreTransposed4 words planes → (k : ℕ) → k < 16
    → wider_block planes k ≡ to_le_bytes w128 (half_of (k % 2) (slice_index words (k / 2)))
packed_sixteen words planes t k hk =
    let h = k % 2 in
    block_of_half planes k hk
    ∙ packed_eight (map (half_of h) words) (map (half_of h) planes) (transposed_half words planes t h (omega arith)) (k / 2) (omega arith)
    ∙ ap (to_le_bytes w128) (half_at h words (k / 2))

pub unpacked_sixteen : (planes words : List ℕ) → AreTransposed4 planes words → (k : ℕ) → k < 16
    → to_le_bytes w128 (half_of (k % 2) (slice_index words (k / 2))) ≡ wider_block planes k
unpacked_sixteen planes words t k hk =
    let h = k % 2 in
    ap (to_le_bytes w128) (sym (half_at h words (k / 2)))
    ∙ unpacked_eight (map (half_of h) planes) (map (half_of h) words) (transposed_half planes words t h (omega arith)) (k / 2) (omega arith)
    ∙ sym (block_of_half planes k hk)

-- ---- round keys

half_of_twice : (n h : ℕ) → h < 2 → half_of h (twice n) ≡ n % 2 ^ 128
half_of_twice n = by_halves (λ h. half_of h (twice n) ≡ n % 2 ^ 128) (omega arith) (omega arith)

byte_of_twice : (h : ℕ) → h < 2 → (planes : List ℕ) (p : ℕ) → p < 128
    → plane_byte (map twice planes) (128 * h + p) ≡ plane_byte planes p
unfolding plane_byte
byte_of_twice h hh planes p lt =
    ap value_of (each-same 8 (λ b. bit_at (slice_index (map twice planes) b) (128 * h + p) == 1)
    (λ b. bit_at (slice_index planes b) p == 1)
    (λ b _. ap (λ t. t == 1) (ap (λ n. bit_at n (128 * h + p)) (twice_at planes b)
    ∙ sym (half_bit h (twice (slice_index planes b)) p lt)
    ∙ ap (λ n. bit_at n p) (half_of_twice (slice_index planes b) h hh) ∙ bit_at-mod (slice_index planes b) 128 p lt)))

-- planes that hold a round key in each of eight blocks hold it twice
pub twice_holds : (w : List (List ℕ)) (j k : ℕ) (planes : List ℕ) → k < 16 → HoldsRound place_of_eight (k / 2) w j planes
    → HoldsRound place_of_sixteen k w j (map twice planes)
twice_holds w j k planes hk holds r c hr hc =
    byte_of_twice (k % 2) (omega arith) planes (8 * (r + 4 * c) + k / 2) (omega arith) ∙ holds r c hr hc
