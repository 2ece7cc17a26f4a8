-- Bytes of a word that change places, and bits that fill them.
use Rattle.std.proofs.Common.{◌≡◌, ℕ, ◌+◌, ◌*◌, ◌/◌, ◌%◌, ◌^◌, ◌<◌, List, [], length, map, replicate, slice_index, slice_index_or, bit_and, ◌==◌, false, Fits, w8, refl, sym, ap, ap₂, ◌∙◌, arith}
use Rattle.std.specs.Int.{bit_at, to_le_bytes, w128}
use Rattle.std.specs.Simd.Lanes.{zip2, Each1}
use Rattle.std.proofs.lemmas.Nat.{and_mask}
use Rattle.std.proofs.lemmas.Nat.Bits.{bit_at-lt}
use Rattle.std.proofs.lemmas.Simd.{Each1-get_or, get_or-zip2, get_or-replicate}
use Rattle.std.proofs.lemmas.List.FromFn.{fill_by_all}
use Rattle.aead_ciphers_base.specs.ByteField.{bits_of, value_of}
use Rattle.aead_ciphers_base.specs.Bytes.{each_below}
use Rattle.aead_ciphers_base.specs.Planes.{plane_byte, Moves}
use Rattle.aead_ciphers_base.proofs.EachLemmas.{get_or-each}
use Rattle.aead_ciphers_wide.specs.WidePlanes.{place_of_eight}
use Rattle.aead_ciphers_base.proofs.NumberBits.{bit_at-mod, bit_at-shr, same_in_table, value_of-bits_of}
use Rattle.aead_ciphers_base.proofs.PlaneBits.{bits_of_at}
use Rattle.aead_ciphers_wide.specs.declared.word.TheConstants.{FILLED}
use Rattle.aead_ciphers_wide.proofs.EightPacking.{byte_is}
use Rattle.aead_ciphers_wide.proofs.Places.{looked_up_at}

pub bit_of_byte : (x p : ℕ) → p < 128 → bit_at x p ≡ bit_at (slice_index (to_le_bytes w128 x) (p / 8)) (p % 8)
bit_of_byte x p h =
    let place : p % 8 + 8 * (p / 8) ≡ p = omega arith in
    sym (ap (λ b. bit_at b (p % 8)) (byte_is x (p / 8) (omega arith)) ∙ bit_at-mod _ 8 (p % 8) (omega arith)
    ∙ bit_at-shr x (8 * (p / 8)) (p % 8) ∙ ap (bit_at x) place)

-- bytes that change places move the bits of eight blocks
pub bytes_move : (from : ℕ → ℕ → ℕ) → ((r c : ℕ) → r < 4 → c < 4 → from r c < 16)
    → (x y : ℕ) → to_le_bytes w128 y ≡ each_below 16 (λ j. slice_index (to_le_bytes w128 x) (from (j % 4) (j / 4)))
    → Moves place_of_eight 8 from x y
bytes_move from within x y e k r c hk hr hc =
    let j = r + 4 * c in
    let below = within r c hr hc in
    let byte : (8 * (r + 4 * c) + k) / 8 ≡ r + 4 * c = omega arith in
    let bit : (8 * (r + 4 * c) + k) % 8 ≡ k = omega arith in
    let byte' : (8 * from r c + k) / 8 ≡ from r c = omega arith in
    let bit' : (8 * from r c + k) % 8 ≡ k = omega arith in
    let row : (r + 4 * c) % 4 ≡ r = omega arith in
    let column : (r + 4 * c) / 4 ≡ c = omega arith in
    let at = λ (i t : ℕ). bit_at (slice_index (to_le_bytes w128 x) i) t in
    bit_of_byte y (8 * (r + 4 * c) + k) (omega arith)
    ∙ ap₂ (λ i t. bit_at (slice_index (to_le_bytes w128 y) i) t) byte bit
    ∙ ap (λ b. bit_at b k) (ap (λ b. slice_index b j) e
    ∙ get_or-each 16 (λ j. slice_index (to_le_bytes w128 x) (from (j % 4) (j / 4))) j 0 (omega arith))
    ∙ ap (λ i. at i k) (ap₂ from row column)
    ∙ sym (bit_of_byte x (8 * from r c + k) (omega arith) ∙ ap₂ at byte' bit')

-- ---- bits that fill bytes

-- the table at a digit
filled_digit : (b v : ℕ) → b < 4 → v < 16 → slice_index (slice_index_or FILLED b []) v ≡ 255 * bit_at v b
filled_digit b v hb hv =
    same_in_table (λ b v. slice_index (slice_index_or FILLED b []) v) (λ b v. 255 * bit_at v b) 4 16 b v refl hb hv

-- a look-up in the table
pub filled_is : (digits : List ℕ) (b : ℕ) → length digits ≡ 16 → b < 4 → ((i : ℕ) → i < 16 → slice_index digits i < 16) → (j : ℕ) → j < 16
    → slice_index (map (slice_index (slice_index_or FILLED b [])) digits) j ≡ 255 * bit_at (slice_index digits j) b
filled_is digits b size hb small j h =
    looked_up_at (slice_index_or FILLED b []) digits j size h ∙ filled_digit b (slice_index digits j) hb (small j h)

-- the digits of bytes
pub low_digit : (v : List ℕ) (i : ℕ) → length v ≡ 16 → i < 16 → slice_index (zip2 bit_and v (replicate 16 15)) i ≡ slice_index v i % 16
low_digit v i size h =
    get_or-zip2 bit_and v (replicate 16 15) i 0 0 0 (omega (arith, size)) h
    ∙ ap (bit_and (slice_index v i)) (get_or-replicate 16 i 15 0 h) ∙ and_mask (slice_index v i) 4

pub high_digit : (v : List ℕ) (i : ℕ) → length v ≡ 16 → i < 16
    → slice_index (zip2 (λ (x n : ℕ). x / 2 ^ n) v (replicate 16 4)) i ≡ slice_index v i / 16
high_digit v i size h =
    get_or-zip2 (λ (x n : ℕ). x / 2 ^ n) v (replicate 16 4) i 0 0 0 (omega (arith, size)) h
    ∙ ap (λ n. slice_index v i / 2 ^ n) (get_or-replicate 16 i 4 0 h)

pub small_low : (v : List ℕ) → length v ≡ 16 → (i : ℕ) → i < 16 → slice_index (zip2 bit_and v (replicate 16 15)) i < 16
small_low v size i h = omega (arith, low_digit v i size h)

pub small_high : (v : List ℕ) → length v ≡ 16 → Each1 (Fits w8) v → (i : ℕ) → i < 16
    → slice_index (zip2 (λ (x n : ℕ). x / 2 ^ n) v (replicate 16 4)) i < 16
small_high v size fits i h = omega (arith, high_digit v i size h, (Each1-get_or (Fits w8) v i 0 (omega (arith, size)) fits).fits)

-- a bit that fills a byte
pub filled_bit : (d b : ℕ) → d < 2 → b < 8 → bit_at (255 * d) b ≡ d
filled_bit d b hd hb = same_in_table (λ d b. bit_at (255 * d) b) (λ d b. d) 2 8 d b refl hd hb

-- a word each of whose bytes has all bits of bit b of a byte
pub filled_word : (y b p : ℕ) (bytes filled : List ℕ) → to_le_bytes w128 y ≡ filled
    → ((j : ℕ) → j < 16 → slice_index filled j ≡ 255 * bit_at (slice_index bytes j) b) → p < 128 → bit_at y p ≡ bit_at (slice_index bytes (p / 8)) b
filled_word y b p bytes filled e fill h =
    let j = p / 8 in
    bit_of_byte y p h ∙ ap (λ b. bit_at b (p % 8)) (ap (λ l. slice_index l j) e ∙ fill j (omega arith))
    ∙ filled_bit (bit_at (slice_index bytes j) b) (p % 8) (bit_at-lt _ _) (omega arith)

-- the byte whose bits the planes have at a place
pub byte_of_bits : (v p : ℕ) (planes : List ℕ) → v < 256 → ((b : ℕ) → b < 8 → bit_at (slice_index planes b) p ≡ bit_at v b) → plane_byte planes p ≡ v
unfolding plane_byte
byte_of_bits v p planes hv same =
    sym (sym (value_of-bits_of 8 v hv)
    ∙ ap value_of (fill_by_all (λ b. bit_at (slice_index planes b) p == 1) (bits_of 8 v) 8 false refl
    (λ b hb. bits_of_at 8 v b hb ∙ ap (λ t. t == 1) (sym (same b hb)))))
