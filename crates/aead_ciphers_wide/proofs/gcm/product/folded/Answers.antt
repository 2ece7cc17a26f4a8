use Rattle.std.proofs.Common.{◌≡◌, ℕ, ◌*◌, ◌/◌, ◌%◌, ◌^◌, ◌<◌, bit_xor, slice_index, refl, sym, ap, ap₂, ◌∙◌, arith}
use Rattle.std.specs.Int.Bits.{xor_assoc, xor_comm, xor_shifted}
use Rattle.std.specs.List.{range_with_len}
use Rattle.std.proofs.lemmas.List.FromFn.{fill_by_all}
use Rattle.std.proofs.lemmas.Simd.{zip2_of_maps}
use Rattle.aead_ciphers_base.proofs.EachLemmas.{get_or-each}
use Rattle.aead_ciphers_base.proofs.AdditiveLemmas.{additive_shl}
use Rattle.aead_ciphers_wide.specs.Products.{folded_byte, shifted_byte}
use Rattle.aead_ciphers_wide.proofs.ByteRows.{IsBlock-vector}
use Rattle.aead_ciphers_wide.proofs.gcm.product.folded.Goals as goal

abbrev left : ℕ → ℕ → ℕ
left x n = x * 2 ^ n % 2 ^ 8

abbrev right : ℕ → ℕ → ℕ
right x n = x / 2 ^ n

abbrev by_two : ℕ → ℕ → ℕ
by_two before b = bit_xor (left (bit_xor before (left before 1)) 6) (right b 2)

abbrev by_seven : ℕ → ℕ → ℕ
by_seven before b = bit_xor (left before 1) (right b 7)

-- what the code computes of two bytes
abbrev computed : ℕ → ℕ → ℕ
computed before b = bit_xor (bit_xor (bit_xor b (right b 1)) (by_two before b)) (by_seven before b)

-- a byte that is shifted, under the byte before it, is the sum of both parts
shifted_one : (before b : ℕ) → b < 256 → bit_xor (left before 7) (right b 1) ≡ shifted_byte 1 before b
shifted_one before b h =
    let place : left before 7 ≡ before % 2 * 2 ^ 7 = omega arith in
    ap (λ t. bit_xor t (right b 1)) place ∙ xor_shifted (before % 2) 7 (right b 1) (omega arith) ∙ omega arith

shifted_two : (before b : ℕ) → b < 256 → bit_xor (left before 6) (right b 2) ≡ shifted_byte 2 before b
shifted_two before b h =
    let place : left before 6 ≡ before % 4 * 2 ^ 6 = omega arith in
    ap (λ t. bit_xor t (right b 2)) place ∙ xor_shifted (before % 4) 6 (right b 2) (omega arith) ∙ omega arith

shifted_seven : (before b : ℕ) → b < 256 → bit_xor (left before 1) (right b 7) ≡ shifted_byte 7 before b
shifted_seven before b h =
    let place : left before 1 ≡ before % 128 * 2 ^ 1 = omega arith in
    ap (λ t. bit_xor t (right b 7)) place ∙ xor_shifted (before % 128) 1 (right b 7) (omega arith) ∙ omega arith

-- (b + p) + ((x + y) + q) = (b + (y + p)) + (x + q)
exchanged : (b p x y q : ℕ) → bit_xor (bit_xor b p) (bit_xor (bit_xor x y) q) ≡ bit_xor (bit_xor b (bit_xor y p)) (bit_xor x q)
exchanged b p x y q =
    ap (bit_xor (bit_xor b p)) (ap (λ t. bit_xor t q) (xor_comm x y) ∙ xor_assoc y x q)
    ∙ sym (xor_assoc (bit_xor b p) y (bit_xor x q))
    ∙ ap (λ t. bit_xor t (bit_xor x q)) (xor_assoc b p y ∙ ap (bit_xor b) (xor_comm p y))

computed_is : (before b : ℕ) → b < 256 → computed before b ≡ folded_byte before b
computed_is before b h =
    let twice : left (left before 1) 6 ≡ left before 7 = omega arith in
    ap (λ t. bit_xor (bit_xor (bit_xor b (right b 1)) (bit_xor t (right b 2))) (by_seven before b))
    (additive_shl 6 8 before (left before 1) ∙ ap (bit_xor (left before 6)) twice)
    ∙ ap (λ t. bit_xor t (by_seven before b)) (exchanged b (right b 1) (left before 6) (left before 7) (right b 2))
    ∙ ap₂ bit_xor (ap₂ (λ s t. bit_xor (bit_xor b s) t) (shifted_one before b h) (shifted_two before b h)) (shifted_seven before b h)

pub returns : goal.returns
returns c = λ i h.
    let bytes = c.args.bytes in
    let before = c.args.before in
    let size = c.fits-bytes.0 in
    let size_before = c.fits-before.0 in
    let block = IsBlock-vector bytes size c.fits-bytes.1 in
    let places = range_with_len 0 16 in
    let byte = slice_index bytes in
    let above = slice_index before in
    let is_bytes = fill_by_all byte bytes 16 0 size (λ i h. refl) in
    let is_before = fill_by_all above before 16 0 size_before (λ i h. refl) in
    let shifted = λ (n : ℕ). zip2_of_maps right byte (λ i. n) places is_bytes refl in
    let doubled = zip2_of_maps left above (λ i. 1) places is_before refl in
    let added = zip2_of_maps bit_xor above (λ i. left (above i) 1) places is_before doubled in
    let raised = zip2_of_maps left (λ i. bit_xor (above i) (left (above i) 1)) (λ i. 6) places added refl in
    let two =
    zip2_of_maps bit_xor (λ i. left (bit_xor (above i) (left (above i) 1)) 6) (λ i. right (byte i) 2) places raised (shifted 2) in
    let seven = zip2_of_maps bit_xor (λ i. left (above i) 1) (λ i. right (byte i) 7) places doubled (shifted 7) in
    let one = zip2_of_maps bit_xor byte (λ i. right (byte i) 1) places is_bytes (shifted 1) in
    let most = zip2_of_maps bit_xor (λ i. bit_xor (byte i) (right (byte i) 1)) (λ i. by_two (above i) (byte i)) places one two in
    let all =
    zip2_of_maps bit_xor (λ i. bit_xor (bit_xor (byte i) (right (byte i) 1)) (by_two (above i) (byte i)))
    (λ i. by_seven (above i) (byte i)) places most seven in
    ap (λ v. slice_index v i) all ∙ get_or-each 16 (λ i. computed (above i) (byte i)) i 0 h
    ∙ computed_is (above i) (byte i) (block.bytes i 0 (omega arith))
