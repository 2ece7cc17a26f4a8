-- Sixteen multiplications by u^8 at once, as the code makes them on bytes.
use Rattle.std.proofs.Common.{◌≡◌, ℕ, zero, suc, ◌+◌, ◌-◌, ◌*◌, ◌/◌, ◌%◌, ◌^◌, ◌<◌, true, List, ◌∷◌, length, slice_index, refl, sym, ap, ap₂, ◌∙◌, arith, ◌==◌, bit_xor, bit_and}
use Rattle.std.specs.Int.{to_be_bytes, from_be_bytes, w128}
use Rattle.std.proofs.lemmas.Nat.{and_mask, xor_block, xor_lt, xor_mod, xor_shr, and_le_l}
use Rattle.std.proofs.lemmas.List.FromFn.{fill_by_all}
use Rattle.aead_ciphers_base.specs.Bytes.{each_below}
use Rattle.aead_ciphers_base.proofs.EachLemmas.{get_or-each}
use Rattle.aead_ciphers_base.proofs.NumberBits.{IsAdditive, same_additive, all_below, same_in_table, by_digits}
use Rattle.aead_ciphers_base.proofs.AdditiveLemmas.{additive_and, additive_shr, additive_shl, additive_xor, additive_after, xor_four}
use Rattle.aead_ciphers.specs.Ghash.{◌•◌, IsBlock}
use Rattle.aead_ciphers_wide.specs.Products.{folded_byte, shifted_byte, stepped, u128_times}
use Rattle.aead_ciphers.proofs.GhashBits.{mask}
use Rattle.aead_ciphers.proofs.GhashBlocks.{byte_at_is, to_be_bytes-from_be_bytes}
use Rattle.aead_ciphers.proofs.ProductLoop.{next_multiple, reduction}
use Rattle.aead_ciphers.proofs.SubkeyMultiples.{IsRaised, raised_next, block_of-multiple}
use Rattle.aead_ciphers_wide.proofs.ByteLadder.{step}
use Rattle.aead_ciphers_wide.proofs.WideBlocks.{by_sixteen}

-- ---- the next multiple keeps sums

chosen : ℕ → ℕ
chosen bit = bit_and reduction (mask 128 bit)

chosen-xor : (x y : ℕ) → x < 2 → y < 2 → chosen (bit_xor x y) ≡ bit_xor (chosen x) (chosen y)
unfolding chosen
chosen-xor x y hx hy = by_digits (λ x y. chosen (bit_xor x y) ≡ bit_xor (chosen x) (chosen y)) x y hx hy refl refl refl refl

lowest_lt : (v : ℕ) → bit_and v 1 < 2
lowest_lt v = omega (arith, and_mask v 1)

next_additive : IsAdditive next_multiple
unfolding chosen
next_additive a b =
    ap₂ bit_xor (additive_shr 1 a b) (ap chosen (additive_and 1 a b) ∙ chosen-xor (bit_and a 1) (bit_and b 1) (lowest_lt a) (lowest_lt b))
    ∙ xor_four (a / 2) (b / 2) (chosen (bit_and a 1)) (chosen (bit_and b 1))

-- n multiples further
abbrev pub further : ℕ → ℕ → ℕ
further zero v = v
further (suc n) v = next_multiple (further n v)

further_additive : (n : ℕ) → IsAdditive (further n)
further_additive zero a b = refl
further_additive (suc n) a b = ap next_multiple (further_additive n a b) ∙ next_additive (further n a) (further n b)

next_fits : (v : ℕ) → v < 2 ^ 128 → next_multiple v < 2 ^ 128
next_fits v h =
    let half : v / 2 < 2 ^ 128 = omega arith in
    let under : bit_and reduction (mask 128 (bit_and v 1)) < 2 ^ 128 = omega (arith, and_le_l reduction (mask 128 (bit_and v 1))) in
    xor_lt 128 (v / 2) _ half under

pub further_fits : (n v : ℕ) → v < 2 ^ 128 → further n v < 2 ^ 128
further_fits zero v h = h
further_fits (suc n) v h = next_fits (further n v) (further_fits n v h)

-- ---- u^128 times a number, byte by byte

-- byte i of the block of a number
abbrev byte : ℕ → ℕ → ℕ
byte i s = s / 2 ^ (8 * (15 - i)) % 2 ^ 8

-- the byte before byte i
abbrev pub before : ℕ → (ℕ → ℕ) → ℕ
before zero bytes = 0
before (suc i) bytes = bytes i

-- what the code adds at the place i
abbrev folded : ℕ → (ℕ → ℕ) → ℕ
folded i bytes = folded_byte (before i bytes) (bytes i)

byte_additive : (i : ℕ) → IsAdditive (byte i)
byte_additive i a b = ap (λ x. x % 2 ^ 8) (xor_shr a b (8 * (15 - i))) ∙ xor_mod _ _ 8

before_additive : (i : ℕ) → IsAdditive (λ s. before i (λ k. byte k s))
before_additive zero a b = refl
before_additive (suc i) a b = byte_additive i a b

shifted_additive : (n i : ℕ) → IsAdditive (λ s. shifted_byte n (before i (λ k. byte k s)) (byte i s))
shifted_additive n i a b =
    let above = λ (s : ℕ). before i (λ k. byte k s) in
    let whole = λ (s : ℕ). above s * 2 ^ 8 + byte i s in
    ap₂ (λ x y. (x * 2 ^ 8 + y) / 2 ^ n % 2 ^ 8) (before_additive i a b) (byte_additive i a b)
    ∙ ap (λ x. x / 2 ^ n % 2 ^ 8) (sym (xor_block 8 (above a) (above b) (byte i a) (byte i b) (omega arith) (omega arith)))
    ∙ ap (λ x. x % 2 ^ 8) (xor_shr (whole a) (whole b) n) ∙ xor_mod _ _ 8

folded_additive : (i : ℕ) → IsAdditive (λ s. folded i (λ k. byte k s))
folded_additive i =
    let more = λ (n : ℕ) (f : ℕ → ℕ) (hf : IsAdditive f).
    additive_xor f (λ s. shifted_byte n (before i (λ k. byte k s)) (byte i s)) hf (shifted_additive n i) in
    more 7 _ (more 2 _ (more 1 (byte i) (byte_additive i)))

-- a number whose lowest byte is 0
abbrev without_byte : ℕ → ℕ
without_byte t = t * 2 ^ 8 % 2 ^ 128

abbrev further_byte : ℕ → ℕ → ℕ
further_byte i t = byte i (further 128 (without_byte t))

abbrev folded_part : ℕ → ℕ → ℕ
folded_part i t = folded i (λ k. byte k (without_byte t))

folded_test : all_below (λ i. all_below (λ j. further_byte i (2 ^ j) == folded_part i (2 ^ j)) 120) 16 ≡ true
folded_test = refl

byte_further : (i s : ℕ) → i < 16 → s < 2 ^ 128 → s % 256 ≡ 0 → byte i (further 128 s) ≡ folded i (λ k. byte k s)
byte_further i s within h none =
    let same : without_byte (s / 256) ≡ s = omega arith in
    let below : s / 256 < 2 ^ 120 = omega arith in
    let shl = additive_shl 8 128 in
    sym (ap (λ t. byte i (further 128 t)) same)
    ∙ same_additive (further_byte i) (folded_part i)
    (additive_after (byte i) (λ t. further 128 (without_byte t)) (byte_additive i)
    (additive_after (further 128) without_byte (further_additive 128) shl))
    (additive_after (λ t. folded i (λ k. byte k t)) without_byte (folded_additive i) shl) 120
    (λ j lt. same_in_table (λ i j. further_byte i (2 ^ j)) (λ i j. folded_part i (2 ^ j)) 16 120 i j folded_test within lt)
    (s / 256) below
    ∙ ap (λ t. folded i (λ k. byte k t)) same

-- ---- blocks

raised_further : (n v : ℕ) → v < 2 ^ 128 → IsRaised v n (further n v)
raised_further zero v h = refl
raised_further (suc n) v h =
    let e : n + 1 ≡ suc n = omega arith in
    rw e at (raised_next v n (further n v) (further_fits n v h) (raised_further n v h))

step_number : (v : ℕ) → v < 2 ^ 128 → step • to_be_bytes w128 v ≡ to_be_bytes w128 (further 8 v)
step_number v h =
    sym (block_of-multiple v 8 (further 8 v) (omega arith) (record { fits = further_fits 8 v h; raised = raised_further 8 v h }))

further-add : (m n v : ℕ) → further m (further n v) ≡ further (m + n) v
further-add zero n v = let e : n ≡ 0 + n = omega arith in ap (λ k. further k v) e
further-add (suc m) n v =
    let e : suc (m + n) ≡ suc m + n = omega arith in
    ap next_multiple (further-add m n v) ∙ ap (λ k. further k v) e

pub stepped_number : (n v : ℕ) → v < 2 ^ 128 → stepped n (to_be_bytes w128 v) ≡ to_be_bytes w128 (further (8 * n) v)
stepped_number zero v h = refl
stepped_number (suc n) v h =
    let e : 8 + 8 * n ≡ 8 * suc n = omega arith in
    ap (λ y. step • y) (stepped_number n v h) ∙ step_number (further (8 * n) v) (further_fits (8 * n) v h)
    ∙ ap (to_be_bytes w128) (further-add 8 (8 * n) v ∙ ap (λ k. further k v) e)

byte_is : (s i : ℕ) → i < 16 → slice_index (to_be_bytes w128 s) i ≡ byte i s
byte_is s = by_sixteen (λ i. slice_index (to_be_bytes w128 s) i ≡ byte i s)
    (byte_at_is 15 s) (byte_at_is 14 s) (byte_at_is 13 s) (byte_at_is 12 s) (byte_at_is 11 s) (byte_at_is 10 s)
    (byte_at_is 9 s) (byte_at_is 8 s) (byte_at_is 7 s) (byte_at_is 6 s) (byte_at_is 5 s) (byte_at_is 4 s)
    (byte_at_is 3 s) (byte_at_is 2 s) (byte_at_is 1 s) (byte_at_is 0 s)

-- the number of a block
number_of : (block : List ℕ) → IsBlock block → (n : ℕ) × (n < 2 ^ 128) × (to_be_bytes w128 n ≡ block)
number_of block is =
    let n = from_be_bytes w128 block in
    let small : (k : ℕ) → k < 16 → slice_index block k < 256 = λ k h. is.bytes k 0 (omega (arith, is.size)) in
    let below : n < 2 ^ 128 = omega (arith, small) in
    (n, below, to_be_bytes-from_be_bytes block n is.size (λ k h. is.bytes k 0 h) refl)

before-same : (f g : ℕ → ℕ) → ((i : ℕ) → i < 16 → f i ≡ g i) → (i : ℕ) → i < 16 → before i f ≡ before i g
before-same f g same zero h = refl
before-same f g same (suc i) h = same i (omega arith)

folded-same : (f g : ℕ → ℕ) → ((i : ℕ) → i < 16 → f i ≡ g i) → (i : ℕ) → i < 16 → folded i f ≡ folded i g
folded-same f g same i h =
    ap₂ folded_byte (before-same f g same i h) (same i h)

-- a block of such bytes
pub folded_is : (block sum : List ℕ) → IsBlock block → slice_index block 15 ≡ 0 → length sum ≡ 16
    → ((i : ℕ) → i < 16 → slice_index sum i ≡ folded_byte (before i (slice_index block)) (slice_index block i))
    → sum ≡ u128_times block
unfolding u128_times
folded_is block sum is none size folds =
    let n = number_of block is in
    let s = n.0 in
    let last : s % 256 ≡ 0 = ap (λ b. slice_index b 15) n.2 ∙ none in
    let bytes = λ (i : ℕ) (h : i < 16). ap (λ b. slice_index b i) (sym n.2) ∙ byte_is s i h in
    let after = λ (i : ℕ). byte i (further 128 s) in
    fill_by_all after sum 16 0 size
    (λ i h. folds i h ∙ folded-same (slice_index block) (λ k. byte k s) bytes i h ∙ sym (byte_further i s h n.1 last))
    ∙ sym (fill_by_all after (to_be_bytes w128 (further 128 s)) 16 0 refl (byte_is (further 128 s)))
    ∙ sym (stepped_number 16 s n.1) ∙ ap (stepped 16) n.2

-- the bytes of a block moved by one place
pub before_is : (block moved : List ℕ) → moved ≡ 0 ∷ each_below 15 (λ i. slice_index block i)
    → (i : ℕ) → i < 16 → slice_index moved i ≡ before i (slice_index block)
before_is block moved is zero h = ap (λ b. slice_index b 0) is
before_is block moved is (suc i) h =
    ap (λ b. slice_index b (suc i)) is ∙ get_or-each 15 (λ i. slice_index block i) i 0 (omega arith)
