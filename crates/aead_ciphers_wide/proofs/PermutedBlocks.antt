-- The steps of a round on the bytes of a block.
use Rattle.std.proofs.Common.{◌≡◌, ℕ, ◌+◌, ◌*◌, ◌/◌, ◌%◌, ◌<◌, List, length, map, slice_index, bit_xor, sym, ap, ap₂, ◌∙◌, arith}
use Rattle.std.specs.Simd.Lanes.{zip2}
use Rattle.std.proofs.lemmas.List.{get_or-map, length-map}
use Rattle.std.proofs.lemmas.Simd.{get_or-zip2, length-zip2}
use Rattle.aead_ciphers_base.specs.Aes.{at, state, sub_bytes, mixed, mix_columns}
use Rattle.aead_ciphers_base.specs.ByteField.{mul8, sbox}
use Rattle.aead_ciphers_base.proofs.PlaneBlocks.{byte_of_state, state_is}
use Rattle.aead_ciphers_base.proofs.PlaneShifts.{mixed_is}
use Rattle.aead_ciphers_wide.proofs.PermutedBytes.{IsVector, byte_at}

-- byte k of a block, by its row and column
at_byte : (s : List ℕ) (k : ℕ) → slice_index s k ≡ at s (k % 4) (k / 4)
at_byte s k = let place : k ≡ k % 4 + 4 * (k / 4) = omega arith in ap (slice_index s) place

pub sub_is : (s : List ℕ) → length s ≡ 16 → map sbox s ≡ sub_bytes s
unfolding sub_bytes
sub_is s size =
    state_is (λ r c. sbox (at s r c)) (map sbox s) (length-map s sbox ∙ size)
    (λ k h. get_or-map sbox s k 0 0 (omega (arith, size)) ∙ ap sbox (at_byte s k))

pub xor_at : (a b : List ℕ) (k : ℕ) → length a ≡ 16 → length b ≡ 16 → k < 16 → slice_index (zip2 bit_xor a b) k ≡ bit_xor (slice_index a k) (slice_index b k)
xor_at a b k la lb h = get_or-zip2 bit_xor a b k 0 0 0 (omega (arith, la)) (omega (arith, lb))

pub length_xor : (a b : List ℕ) → length a ≡ 16 → length b ≡ 16 → length (zip2 bit_xor a b) ≡ 16
length_xor a b la lb = length-zip2 bit_xor a b (la ∙ sym lb) ∙ la

pub mixed_columns : (s b t d : List ℕ) → IsVector s → b ≡ state (λ r c. at s ((r + 1) % 4) c) → t ≡ map (mul8 2) (zip2 bit_xor s b)
    → d ≡ state (λ r c. at (zip2 bit_xor s b) ((r + 2) % 4) c) → zip2 bit_xor (zip2 bit_xor t b) d ≡ mix_columns s
unfolding mix_columns
mixed_columns s b t d fits is_b is_t is_d =
    let size = fits.0 in
    let sum = zip2 bit_xor s b in
    let size_b : length b ≡ 16 = ap length is_b in
    let size_d : length d ≡ 16 = ap length is_d in
    let size_sum : length sum ≡ 16 = length_xor s b size size_b in
    let size_t : length t ≡ 16 = ap length is_t ∙ length-map sum (mul8 2) ∙ size_sum in
    state_is (λ r c. mixed (at s r c) (at s ((r + 1) % 4) c) (at s ((r + 2) % 4) c) (at s ((r + 3) % 4) c)) _
    (length_xor (zip2 bit_xor t b) d (length_xor t b size_t size_b) size_d)
    (λ k h.
    let r = k % 4 in
    let c = k / 4 in
    let x = at s r c in
    let y = at s ((r + 1) % 4) c in
    let z = at s ((r + 2) % 4) c in
    let w = at s ((r + 3) % 4) c in
    let m = (r + 2) % 4 + 4 * c in
    let below : slice_index b k ≡ y = ap (λ l. slice_index l k) is_b ∙ byte_of_state (λ r c. at s ((r + 1) % 4) c) k h in
    let row : (m % 4 + 1) % 4 + 4 * (m / 4) ≡ (r + 3) % 4 + 4 * c = omega arith in
    let third : slice_index b m ≡ w =
    ap (λ l. slice_index l m) is_b ∙ byte_of_state (λ r c. at s ((r + 1) % 4) c) m (omega arith) ∙ ap (slice_index s) row in
    let sum_here : slice_index sum k ≡ bit_xor x y = xor_at s b k size size_b h ∙ ap₂ bit_xor (at_byte s k) below in
    let twice : slice_index t k ≡ mul8 2 (bit_xor x y) =
    ap (λ l. slice_index l k) is_t ∙ get_or-map (mul8 2) sum k 0 0 (omega (arith, size_sum)) ∙ ap (mul8 2) sum_here in
    let two : slice_index d k ≡ bit_xor z w =
    ap (λ l. slice_index l k) is_d ∙ byte_of_state (λ r c. at sum ((r + 2) % 4) c) k h ∙ xor_at s b m size size_b (omega arith) ∙ ap (bit_xor z) third in
    xor_at (zip2 bit_xor t b) d k (length_xor t b size_t size_b) size_d h
    ∙ ap₂ bit_xor (xor_at t b k size_t size_b h ∙ ap₂ bit_xor twice below) two
    ∙ mixed_is x y z w (byte_at s fits ((r + 1) % 4 + 4 * c) (omega arith)))

pub sum_is : (s key : List ℕ) → length s ≡ 16 → length key ≡ 16 → zip2 bit_xor s key ≡ state (λ r c. bit_xor (at s r c) (at key r c))
sum_is s key size size_key =
    state_is (λ r c. bit_xor (at s r c) (at key r c)) _ (length_xor s key size size_key)
    (λ k h. xor_at s key k size size_key h ∙ ap₂ bit_xor (at_byte s k) (at_byte key k))
