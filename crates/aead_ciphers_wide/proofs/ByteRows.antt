-- The table of `product`, and the look-ups in its rows.
use Rattle.std.proofs.Common.{◌≡◌, ℕ, zero, suc, ◌+◌, ◌-◌, ◌*◌, ◌/◌, ◌%◌, ◌^◌, ◌<◌, ◌≤◌, Bool, true, false, List, [], ◌∷◌, ◌++◌, length, replicate, slice_index, slice_index_or, if◌then◌else◌, ◌==◌, bit_xor, refl, sym, ap, ap₂, subst, ◌∙◌, arith, inl, inr, length-append, reverse, Fits, w8}
use Rattle.std.specs.Int.{to_be_bytes, w128}
use Rattle.aead_ciphers_base.specs.ByteField.{value_of}
use Rattle.std.specs.Int.Bits.{xor_shifted}
use Rattle.std.specs.Simd.Lanes.{Each1}
use Rattle.std.proofs.lemmas.Simd.{Each1-get_or}
use Rattle.std.proofs.lemmas.Bool.{cases_lt}
use Rattle.std.proofs.lemmas.List.{get_or_append_left, get_or-append_right, get_or_past, length-replicate}
use Rattle.std.proofs.lemmas.List.FromFn.{fill_by_all}
use Rattle.aead_ciphers_base.specs.Bytes.{◌⊕◌, zero_block, each_below}
use Rattle.aead_ciphers_base.proofs.EachLemmas.{each-same, get_or-each, length-each}
use Rattle.aead_ciphers_base.proofs.XorLemmas.{xor_assoc, xor_comm, xor_zeros, xor-append, xor_by_index}
use Rattle.aead_ciphers.specs.Ghash.{IsBlock, ◌•◌, block_of}
use Rattle.aead_ciphers_wide.specs.Products.{AreProducts, chosen_sum, column, first_byte, stepped, subkey, u128_times}
use Rattle.aead_ciphers.specs.Multiples.{monomial_block}
use Rattle.aead_ciphers.proofs.GhashBlocks.{to_be_bytes-xor, IsBlock-number, IsBlock-product}
use Rattle.aead_ciphers.proofs.GhashLaws.{Sized, Sized-product, Sized-xor, xor_zero, product_zero, product_assoc, product_comm, product_xor_left, product_xor_right, product_unit, IsBlock-zero}
use Rattle.aead_ciphers_wide.proofs.WideBlocks.{by_sixteen}
use Rattle.aead_ciphers_wide.proofs.ByteLadder.{step, ladder, ladder-same, ladder-xor, ladder-times, ladder-swap, ladder-append, ladder-zero, Sized-ladder, Sized-step, block_ladder}

-- ---- the table

zero_product : (h : List ℕ) → Sized h → zero_block • h ≡ zero_block
zero_product h size = product_comm zero_block h refl size ∙ product_zero h size

abbrev part : Bool → ℕ → List ℕ
part b k = if b then monomial_block k else zero_block

Sized-part : (b : Bool) (k : ℕ) → Sized (part b k)
unfolding block_of
Sized-part true k = (IsBlock-number (value_of (reverse (replicate k false ++ true ∷ replicate (127 - k) false)))).size
Sized-part false k = refl

part_is : (h : List ℕ) (b : Bool) (k v : ℕ) → Sized h → to_be_bytes w128 v ≡ monomial_block k • h
    → to_be_bytes w128 (if b then v else 0) ≡ part b k • h
part_is h true k v size e = e
part_is h false k v size e = sym (zero_product h size)

abbrev digit : ℕ → ℕ → Bool
digit n p = n / p % 2 == 1

abbrev digit_block : ℕ → ℕ → List ℕ
digit_block n from =
    ((part (digit n 8) (from + 0) ⊕ part (digit n 4) (from + 1)) ⊕ part (digit n 2) (from + 2)) ⊕ part (digit n 1) (from + 3)

chosen_is : (h m : List ℕ) (n from : ℕ) → Sized h → ((k : ℕ) → k < 8 → to_be_bytes w128 (slice_index m k) ≡ monomial_block k • h) → from ≤ 4
    → to_be_bytes w128 (chosen_sum n from m) ≡ digit_block n from • h
chosen_is h m n from size multiples within =
    let a = part (digit n 8) (from + 0) in
    let b = part (digit n 4) (from + 1) in
    let c = part (digit n 2) (from + 2) in
    let d = part (digit n 1) (from + 3) in
    let sa = Sized-part (digit n 8) (from + 0) in
    let sb = Sized-part (digit n 4) (from + 1) in
    let sc = Sized-part (digit n 2) (from + 2) in
    let sd = Sized-part (digit n 1) (from + 3) in
    let at : (b : Bool) (k : ℕ) → k < 8 → to_be_bytes w128 (if b then slice_index m k else 0) ≡ part b k • h =
    λ b k lt. part_is h b k (slice_index m k) size (multiples k lt) in
    to_be_bytes-xor _ _
    ∙ ap₂ (λ x y. x ⊕ y)
    (to_be_bytes-xor _ _
    ∙ ap₂ (λ x y. x ⊕ y)
    (to_be_bytes-xor _ _ ∙ ap₂ (λ x y. x ⊕ y) (at (digit n 8) (from + 0) (omega arith)) (at (digit n 4) (from + 1) (omega arith))
    ∙ sym (product_xor_left a b h sa sb size))
    (at (digit n 2) (from + 2) (omega arith))
    ∙ sym (product_xor_left (a ⊕ b) c h (Sized-xor a b sa sb) sc size))
    (at (digit n 1) (from + 3) (omega arith))
    ∙ sym (product_xor_left ((a ⊕ b) ⊕ c) d h (Sized-xor (a ⊕ b) c (Sized-xor a b sa sb) sc) sd size)

high_digit : (n : ℕ) → n < 16 → digit_block n 0 ≡ first_byte (16 * n)
unfolding block_of
high_digit = by_sixteen (λ n. digit_block n 0 ≡ first_byte (16 * n)) refl refl refl refl refl refl refl refl refl refl refl refl refl refl refl refl

low_digit : (n : ℕ) → n < 16 → digit_block n 4 ≡ first_byte n
unfolding block_of
low_digit = by_sixteen (λ n. digit_block n 4 ≡ first_byte n) refl refl refl refl refl refl refl refl refl refl refl refl refl refl refl refl

column_is : (table block : List ℕ) (n : ℕ) → length block ≡ 16 → ((r : ℕ) → r < 16 → slice_index table (16 * r + n) ≡ slice_index block r)
    → column table n ≡ block
column_is table block n size h =
    sym (fill_by_all (λ r. slice_index table (16 * r + n)) block 16 0 size (λ r lt. sym (h r lt)))

-- ---- the table that `write_products` writes

-- a byte of a vector that adds two
pub sum_byte : (a b sum : List ℕ) (i : ℕ) → length a ≡ 16 → length b ≡ 16 → sum ≡ a ⊕ b → i < 16
    → slice_index sum i ≡ bit_xor (slice_index a i) (slice_index b i)
sum_byte a b sum i size size' is h =
    ap (λ s. slice_index s i) (is ∙ xor_by_index a b 16 size size') ∙ get_or-each 16 (λ i. bit_xor (slice_index a i) (slice_index b i)) i 0 h

-- byte q of the table, of the multiples
abbrev pub byte_at : List (List ℕ) → ℕ → ℕ
byte_at blocks q = chosen_sum (q % 16) 0 (each_below 4 (λ k. slice_index (slice_index_or blocks (q / 256 * 4 + k) []) (q / 16 % 16)))

-- a byte of a sum
byte-xor : (a b at : ℕ) → at < 16
    → slice_index (to_be_bytes w128 (bit_xor a b)) at ≡ bit_xor (slice_index (to_be_bytes w128 a) at) (slice_index (to_be_bytes w128 b) at)
byte-xor a b at h =
    let size = λ (n : ℕ). (IsBlock-number n).size in
    ap (λ l. slice_index l at) (to_be_bytes-xor a b ∙ xor_by_index (to_be_bytes w128 a) (to_be_bytes w128 b) 16 (size a) (size b))
    ∙ get_or-each 16 (λ i. bit_xor (slice_index (to_be_bytes w128 a) i) (slice_index (to_be_bytes w128 b) i)) at 0 h

byte-none : (at : ℕ) → at < 16 → slice_index (to_be_bytes w128 0) at ≡ 0
byte-none = by_sixteen (λ at. slice_index (to_be_bytes w128 0) at ≡ 0) refl refl refl refl refl refl refl refl refl refl refl refl refl refl refl refl

byte-chosen : (b : Bool) (x at : ℕ) → at < 16 → slice_index (to_be_bytes w128 (if b then x else 0)) at ≡ (if b then slice_index (to_be_bytes w128 x) at else 0)
byte-chosen true x at h = refl
byte-chosen false x at h = byte-none at h

byte-chosen_sum : (n from at : ℕ) (m : List ℕ) → at < 16
    → slice_index (to_be_bytes w128 (chosen_sum n from m)) at
    ≡ chosen_sum n 0 (each_below 4 (λ k. slice_index (to_be_bytes w128 (slice_index m (from + k))) at))
byte-chosen_sum n from at m h =
    let part = λ (k p : ℕ). if n / p % 2 == 1 then slice_index m (from + k) else 0 in
    let byte = λ (k p : ℕ). byte-chosen (n / p % 2 == 1) (slice_index m (from + k)) at h in
    byte-xor (bit_xor (bit_xor (part 0 8) (part 1 4)) (part 2 2)) (part 3 1) at h
    ∙ ap₂ bit_xor (byte-xor (bit_xor (part 0 8) (part 1 4)) (part 2 2) at h
    ∙ ap₂ bit_xor (byte-xor (part 0 8) (part 1 4) at h ∙ ap₂ bit_xor (byte 0 8) (byte 1 4)) (byte 2 2)) (byte 3 1)

module _ (h m table : List ℕ) (blocks : List (List ℕ)) (size : Sized h)
    (multiples : (k : ℕ) → k < 8 → to_be_bytes w128 (slice_index m k) ≡ monomial_block k • h)
    (taken : (k : ℕ) → k < 8 → slice_index_or blocks k [] ≡ to_be_bytes w128 (slice_index m k))
    (bytes : (q : ℕ) → q < 512 → slice_index table q ≡ byte_at blocks q) where
  table_byte : (q : ℕ) → q < 512 → slice_index table q ≡ slice_index (to_be_bytes w128 (chosen_sum (q % 16) (q / 256 * 4) m)) (q / 16 % 16)
  table_byte q lt =
      bytes q lt
      ∙ ap (chosen_sum (q % 16) 0)
      (each-same 4 (λ k. slice_index (slice_index_or blocks (q / 256 * 4 + k) []) (q / 16 % 16))
      (λ k. slice_index (to_be_bytes w128 (slice_index m (q / 256 * 4 + k))) (q / 16 % 16))
      (λ k less. ap (λ b. slice_index b (q / 16 % 16)) (taken (q / 256 * 4 + k) (omega arith))))
      ∙ sym (byte-chosen_sum (q % 16) (q / 256 * 4) (q / 16 % 16) m (omega arith))

  high_column : (n : ℕ) → n < 16 → column table n ≡ first_byte (16 * n) • h
  high_column n lt =
      column_is table (to_be_bytes w128 (chosen_sum n 0 m)) n (IsBlock-number (chosen_sum n 0 m)).size
      (λ r within.
      let digit : (16 * r + n) % 16 ≡ n = omega arith in
      let from : (16 * r + n) / 256 * 4 ≡ 0 = omega arith in
      let byte : (16 * r + n) / 16 % 16 ≡ r = omega arith in
      table_byte (16 * r + n) (omega arith) ∙ ap₂ (λ d t. slice_index (to_be_bytes w128 (chosen_sum d t m)) ((16 * r + n) / 16 % 16)) digit from
      ∙ ap (slice_index (to_be_bytes w128 (chosen_sum n 0 m))) byte)
      ∙ chosen_is h m n 0 size multiples (omega arith) ∙ ap (λ b. b • h) (high_digit n lt)

  low_column : (n : ℕ) → n < 16 → column table (256 + n) ≡ first_byte n • h
  low_column n lt =
      column_is table (to_be_bytes w128 (chosen_sum n 4 m)) (256 + n) (IsBlock-number (chosen_sum n 4 m)).size
      (λ r within.
      let digit : (16 * r + (256 + n)) % 16 ≡ n = omega arith in
      let from : (16 * r + (256 + n)) / 256 * 4 ≡ 4 = omega arith in
      let byte : (16 * r + (256 + n)) / 16 % 16 ≡ r = omega arith in
      table_byte (16 * r + (256 + n)) (omega arith) ∙ ap₂ (λ d t. slice_index (to_be_bytes w128 (chosen_sum d t m)) ((16 * r + (256 + n)) / 16 % 16)) digit from
      ∙ ap (slice_index (to_be_bytes w128 (chosen_sum n 4 m))) byte)
      ∙ chosen_is h m n 4 size multiples (omega arith) ∙ ap (λ b. b • h) (low_digit n lt)

  pub are_products : AreProducts h table
  are_products = record { high = high_column; low = low_column }

  pub subkey_is : IsBlock h → subkey table ≡ h
  unfolding subkey
  subkey_is is = high_column 8 (omega arith) ∙ product_comm (first_byte (16 * 8)) h refl size ∙ product_unit h is

-- ---- the loop of `product`

-- the byte that row r gives for byte i of the block
abbrev pub row_byte : List ℕ → List ℕ → List ℕ → ℕ → ℕ → ℕ
row_byte table high low r i =
    bit_xor (slice_index table (16 * r + slice_index high i)) (slice_index table (256 + 16 * r + slice_index low i))

-- the block of 16 bytes and u^128 times the block of 16 more
abbrev pub pair_value : List ℕ → List ℕ → List ℕ
pair_value first second = ladder 32 (λ i. first_byte (slice_index (first ++ second) i))

-- a last block of zeros makes no difference
ladder-last : (n : ℕ) (f : ℕ → List ℕ) → ((i : ℕ) → Sized (f i)) → f n ≡ zero_block → ladder (suc n) f ≡ ladder n f
unfolding ladder
ladder-last zero f h e = ap₂ (λ x y. x ⊕ y) e (product_zero step Sized-step)
ladder-last (suc n) f h e = ap (λ y. f 0 ⊕ step • y) (ladder-last n (λ i. f (suc i)) (λ i. h (suc i)) e)

module _ (first second : List ℕ) (size : length first ≡ 16) (size' : length second ≡ 16) where
  abbrev front : List ℕ
  front = 0 ∷ each_below 15 (λ i. slice_index first i)

  abbrev back : List ℕ
  back = slice_index first 15 ∷ each_below 15 (λ i. slice_index second i)

  moved_byte : (i : ℕ) → i < 31 → slice_index (front ++ back) (suc i) ≡ slice_index (first ++ second) i
  moved_byte i h = elim (cases_lt i 15) [
    | inl less ↦
        get_or_append_left (each_below 15 (λ i. slice_index first i)) back 0 i less
        ∙ get_or-each 15 (λ i. slice_index first i) i 0 less
        ∙ sym (get_or_append_left first second 0 i (omega arith))
    | inr more ↦
        get_or-append_right (each_below 15 (λ i. slice_index first i)) back 15 i 0 refl more
        ∙ elim (cases_lt i 16) [
          | inl less ↦
              let here : i - 15 ≡ 0 = omega arith in
              let place : i ≡ 15 = omega arith in
              ap (slice_index back) here ∙ ap (slice_index first) (sym place) ∙ sym (get_or_append_left first second 0 i (omega arith))
          | inr past ↦
              let next : i - 15 ≡ suc (i - 16) = omega arith in
              ap (slice_index back) next ∙ get_or-each 15 (λ i. slice_index second i) (i - 16) 0 (omega arith)
              ∙ sym (get_or-append_right first second 16 i 0 size (omega arith))
        ]
  ]

  pub moved_value : slice_index second 15 ≡ 0 → pair_value front back ≡ step • pair_value first second
  unfolding ladder
  moved_value last =
      let f = λ (i : ℕ). first_byte (slice_index (first ++ second) i) in
      let s = Sized-product step (ladder 31 f) in
      let none : f 31 ≡ zero_block = ap first_byte (get_or-append_right first second 16 31 0 size (omega arith) ∙ last) in
      ap (λ y. zero_block ⊕ step • y)
      (ladder-same 31 (λ i. first_byte (slice_index (front ++ back) (suc i))) f (λ i lt. ap first_byte (moved_byte i lt)))
      ∙ xor_comm zero_block (step • ladder 31 f) ∙ xor_zero (step • ladder 31 f) s
      ∙ ap (λ y. step • y) (sym (ladder-last 31 f (λ i. refl) none))

-- moved by two places
abbrev pub front_of_two : List ℕ → List ℕ
front_of_two first = 0 ∷ 0 ∷ each_below 14 (λ i. slice_index first i)

abbrev pub back_of_two : List ℕ → List ℕ → List ℕ
back_of_two first second = slice_index first 14 ∷ slice_index first 15 ∷ each_below 14 (λ i. slice_index second i)

module _ (first second : List ℕ) (size : length first ≡ 16) (size' : length second ≡ 16) where
  pub moved_twice_value : slice_index second 14 ≡ 0 → slice_index second 15 ≡ 0
      → pair_value (front_of_two first) (back_of_two first second) ≡ step • (step • pair_value first second)
  moved_twice_value next last =
      let front = 0 ∷ each_below 15 (λ i. slice_index first i) in
      let back = slice_index first 15 ∷ each_below 15 (λ i. slice_index second i) in
      moved_value front back refl refl next ∙ ap (λ y. step • y) (moved_value first second size size' last)

  pub moved_twice_zeros : (k : ℕ) → (k ≡ 0 → (i : ℕ) → slice_index first i ≡ 0)
      → ((i : ℕ) → 2 * k ≤ i + 2 → slice_index second i ≡ 0) → (i : ℕ) → 2 * (k + 1) ≤ i + 2 → slice_index (back_of_two first second) i ≡ 0
  moved_twice_zeros k empty zeros zero h = empty (omega arith) 14
  moved_twice_zeros k empty zeros (suc zero) h = empty (omega arith) 15
  moved_twice_zeros k empty zeros (suc (suc i)) h = elim (cases_lt i 14) [
    | inl less ↦ get_or-each 14 (λ i. slice_index second i) i 0 less ∙ zeros i (omega arith)
    | inr past ↦ get_or_past (each_below 14 (λ i. slice_index second i)) i 0 (omega (arith, length-each 14 (λ i. slice_index second i)))
  ]

pub zero_at : (n i : ℕ) → slice_index (replicate n 0) i ≡ 0
zero_at zero i = refl
zero_at (suc n) zero = refl
zero_at (suc n) (suc i) = zero_at n i

zeros_past : (xs : List ℕ) → length xs ≡ 16 → (i : ℕ) → slice_index (xs ++ replicate 16 0) (16 + i) ≡ 0
zeros_past xs size i =
    let back : 16 + i - 16 ≡ i = omega arith in
    get_or-append_right xs (replicate 16 0) 16 (16 + i) 0 size (omega arith) ∙ ap (slice_index (replicate 16 0)) back ∙ zero_at 16 i

stepped_zero : (n : ℕ) → stepped n zero_block ≡ zero_block
stepped_zero zero = refl
stepped_zero (suc n) = ap (λ y. step • y) (stepped_zero n) ∙ product_zero step Sized-step

padded_value : (bytes : List ℕ) → length bytes ≡ 16
    → ladder 32 (λ i. first_byte (slice_index (bytes ++ replicate 16 0) i)) ≡ ladder 16 (λ i. first_byte (slice_index bytes i))
padded_value bytes size =
    let f = λ (i : ℕ). first_byte (slice_index (bytes ++ replicate 16 0) i) in
    let g = λ (i : ℕ). first_byte (slice_index bytes i) in
    ladder-append 16 16 f (λ i. refl)
    ∙ ap₂ (λ x y. x ⊕ stepped 16 y)
    (ladder-same 16 f g (λ i lt. ap first_byte (get_or_append_left bytes (replicate 16 0) 0 i (omega arith))))
    (ladder-same 16 (λ i. f (16 + i)) (λ i. zero_block) (λ i lt. ap first_byte (zeros_past bytes size i)) ∙ ladder-zero 16)
    ∙ ap (λ y. ladder 16 g ⊕ y) (stepped_zero 16)
    ∙ xor_zero (ladder 16 g) (Sized-ladder 16 g (λ i. refl))

-- a sum of 32 bytes
pair_value-xor : (first second front back : List ℕ) → length first ≡ 16 → length second ≡ 16 → length front ≡ 16 → length back ≡ 16
    → pair_value (first ⊕ front) (second ⊕ back) ≡ pair_value first second ⊕ pair_value front back
pair_value-xor first second front back s1 s2 s3 s4 =
    let xs = first ++ second in
    let ys = front ++ back in
    let lx : length xs ≡ 32 = omega (arith, length-append first second) in
    let ly : length ys ≡ 32 = omega (arith, length-append front back) in
    let f = λ (i : ℕ). first_byte (slice_index xs i) in
    let g = λ (i : ℕ). first_byte (slice_index ys i) in
    ladder-same 32 (λ i. first_byte (slice_index ((first ⊕ front) ++ (second ⊕ back)) i)) (λ i. f i ⊕ g i)
    (λ i lt.
    ap first_byte (ap (λ b. slice_index b i) (sym (xor-append first second front back (s1 ∙ sym s3)) ∙ xor_by_index xs ys 32 lx ly)
    ∙ get_or-each 32 (λ i. bit_xor (slice_index xs i) (slice_index ys i)) i 0 lt))
    ∙ ladder-xor 32 f g (λ i. refl) (λ i. refl)

-- bytes are added to the first 16
pub added_value : (front back bytes : List ℕ) → length front ≡ 16 → length back ≡ 16 → length bytes ≡ 16
    → pair_value (front ⊕ bytes) back ≡ pair_value front back ⊕ ladder 16 (λ i. first_byte (slice_index bytes i))
added_value front back bytes size size' size'' =
    ap (pair_value (front ⊕ bytes)) (sym (xor_zeros back 16 size'))
    ∙ pair_value-xor front back bytes (replicate 16 0) size size' size'' (length-replicate {A = ℕ} 16 0)
    ∙ ap (λ y. pair_value front back ⊕ y) (padded_value bytes size'')

-- one turn of the loop, which takes in the row at 15 - k
pub turn : (first second bytes : List ℕ) (W : ℕ → List ℕ) (k : ℕ) → length first ≡ 16 → length second ≡ 16 → length bytes ≡ 16 → k < 16
    → slice_index second 15 ≡ 0 → pair_value first second ≡ ladder k (λ r. W (16 - k + r))
    → ladder 16 (λ i. first_byte (slice_index bytes i)) ≡ W (15 - k)
    → pair_value ((0 ∷ each_below 15 (λ i. slice_index first i)) ⊕ bytes) (slice_index first 15 ∷ each_below 15 (λ i. slice_index second i))
    ≡ ladder (k + 1) (λ r. W (16 - (k + 1) + r))
unfolding ladder
turn first second bytes W k size size' size'' within last before here =
    let front = 0 ∷ each_below 15 (λ i. slice_index first i) in
    let back = slice_index first 15 ∷ each_below 15 (λ i. slice_index second i) in
    let e : k + 1 ≡ suc k = omega arith in
    let row : 15 - k ≡ 16 - (k + 1) + 0 = omega arith in
    added_value front back bytes refl refl size''
    ∙ ap₂ (λ x y. x ⊕ y) (moved_value first second size size' last ∙ ap (λ y. step • y) before) here
    ∙ xor_comm (step • ladder k (λ r. W (16 - k + r))) (W (15 - k))
    ∙ ap₂ (λ x y. x ⊕ step • y) (ap W row)
    (ladder-same k (λ r. W (16 - k + r)) (λ r. W (16 - (k + 1) + suc r)) (λ i lt. (let place : 16 - k + i ≡ 16 - (k + 1) + suc i = omega arith in ap W place)))
    ∙ ap (λ n. ladder n (λ r. W (16 - (k + 1) + r))) (sym e)

-- the value of the even rows' sum and u^8 times that of the odd rows' one
abbrev pub rows_value : List ℕ → List ℕ → List ℕ → List ℕ → List ℕ
rows_value even even_over odd odd_over = pair_value even even_over ⊕ step • pair_value odd odd_over

Sized-pair : (first second : List ℕ) → Sized (pair_value first second)
Sized-pair first second = Sized-ladder 32 (λ i. first_byte (slice_index (first ++ second) i)) (λ i. refl)

-- (u^16 a + c) + u^8 (u^16 b + d) = c + u^8 (d + u^8 (a + u^8 b))
two_steps : (a b c d : List ℕ) → Sized a → Sized b → Sized d
    → (step • (step • a) ⊕ c) ⊕ step • (step • (step • b) ⊕ d) ≡ c ⊕ step • (d ⊕ step • (a ⊕ step • b))
two_steps a b c d sa sb sd =
    let s = λ (y : List ℕ). Sized-product step y in
    let far = step • (step • b) in
    ap₂ (λ x y. x ⊕ step • y) (xor_comm (step • (step • a)) c) (xor_comm far d)
    ∙ xor_assoc c (step • (step • a)) (step • (d ⊕ far))
    ∙ ap (λ y. c ⊕ y)
    (sym (product_xor_right step (step • a) (d ⊕ far) Sized-step (s a) (Sized-xor d far sd (s (step • b))))
    ∙ ap (λ y. step • y)
    (sym (xor_assoc (step • a) d far) ∙ ap (λ y. y ⊕ far) (xor_comm (step • a) d) ∙ xor_assoc d (step • a) far
    ∙ ap (λ y. d ⊕ y) (sym (product_xor_right step a (step • b) Sized-step sa (s b)))))

-- one turn of the loop of two sums, which takes in the rows at 14 - 2 k and 14 - 2 k + 1
pub turn_of_two : (even even_over odd odd_over bytes bytes' : List ℕ) (W : ℕ → List ℕ) (k : ℕ)
    → length even ≡ 16 → length even_over ≡ 16 → length odd ≡ 16 → length odd_over ≡ 16 → length bytes ≡ 16 → length bytes' ≡ 16 → k < 8
    → ((i : ℕ) → 2 * k ≤ i + 2 → slice_index even_over i ≡ 0) → ((i : ℕ) → 2 * k ≤ i + 2 → slice_index odd_over i ≡ 0)
    → rows_value even even_over odd odd_over ≡ ladder (2 * k) (λ r. W (16 - 2 * k + r))
    → ladder 16 (λ i. first_byte (slice_index bytes i)) ≡ W (14 - 2 * k)
    → ladder 16 (λ i. first_byte (slice_index bytes' i)) ≡ W (14 - 2 * k + 1)
    → rows_value (front_of_two even ⊕ bytes) (back_of_two even even_over) (front_of_two odd ⊕ bytes') (back_of_two odd odd_over)
    ≡ ladder (2 * (k + 1)) (λ r. W (16 - 2 * (k + 1) + r))
unfolding ladder
turn_of_two even even_over odd odd_over bytes bytes' W k s1 s2 s3 s4 size size' within zeros zeros' before here here' =
    let c = ladder 16 (λ i. first_byte (slice_index bytes i)) in
    let d = ladder 16 (λ i. first_byte (slice_index bytes' i)) in
    let sd : Sized d = Sized-ladder 16 (λ i. first_byte (slice_index bytes' i)) (λ i. refl) in
    let e : 2 * (k + 1) ≡ suc (suc (2 * k)) = omega arith in
    let row : 14 - 2 * k ≡ 16 - 2 * (k + 1) + 0 = omega arith in
    let row' : 14 - 2 * k + 1 ≡ 16 - 2 * (k + 1) + 1 = omega arith in
    ap₂ (λ x y. x ⊕ step • y)
    (added_value (front_of_two even) (back_of_two even even_over) bytes refl refl size
    ∙ ap (λ x. x ⊕ c) (moved_twice_value even even_over s1 s2 (zeros 14 (omega arith)) (zeros 15 (omega arith))))
    (added_value (front_of_two odd) (back_of_two odd odd_over) bytes' refl refl size'
    ∙ ap (λ x. x ⊕ d) (moved_twice_value odd odd_over s3 s4 (zeros' 14 (omega arith)) (zeros' 15 (omega arith))))
    ∙ two_steps (pair_value even even_over) (pair_value odd odd_over) c d (Sized-pair even even_over) (Sized-pair odd odd_over) sd
    ∙ ap₂ (λ x y. x ⊕ step • y) (here ∙ ap W row)
    (ap₂ (λ x y. x ⊕ step • y) (here' ∙ ap W row')
    (before
    ∙ ladder-same (2 * k) (λ r. W (16 - 2 * k + r)) (λ r. W (16 - 2 * (k + 1) + suc (suc r)))
    (λ i lt. (let place : 16 - 2 * k + i ≡ 16 - 2 * (k + 1) + suc (suc i) = omega arith in ap W place))))
    ∙ ap (λ n. ladder n (λ r. W (16 - 2 * (k + 1) + r))) (sym e)

-- the two sums joined
pub joined_value : (even even_over odd odd_over : List ℕ) → length even ≡ 16 → length even_over ≡ 16 → length odd ≡ 16 → length odd_over ≡ 16
    → slice_index odd_over 15 ≡ 0
    → pair_value (even ⊕ (0 ∷ each_below 15 (λ i. slice_index odd i)))
    (even_over ⊕ (slice_index odd 15 ∷ each_below 15 (λ i. slice_index odd_over i)))
    ≡ rows_value even even_over odd odd_over
joined_value even even_over odd odd_over s1 s2 s3 s4 last =
    let front = 0 ∷ each_below 15 (λ i. slice_index odd i) in
    let back = slice_index odd 15 ∷ each_below 15 (λ i. slice_index odd_over i) in
    pair_value-xor even even_over front back s1 s2 refl refl
    ∙ ap (λ y. pair_value even even_over ⊕ y) (moved_value odd odd_over s3 s4 last)

pub joined_last : (even_over odd odd_over over : List ℕ) → length even_over ≡ 16
    → over ≡ even_over ⊕ (slice_index odd 15 ∷ each_below 15 (λ i. slice_index odd_over i))
    → slice_index even_over 15 ≡ 0 → slice_index odd_over 14 ≡ 0 → slice_index over 15 ≡ 0
joined_last even_over odd odd_over over size is last next =
    sum_byte even_over (slice_index odd 15 ∷ each_below 15 (λ i. slice_index odd_over i)) over 15 size refl is (omega arith)
    ∙ ap₂ bit_xor last next

-- ---- the end

pub IsBlock-vector : (xs : List ℕ) → length xs ≡ 16 → Each1 (Fits w8) xs → IsBlock xs
IsBlock-vector xs size fits = record { size = size; bytes = λ k d lt. (Each1-get_or (Fits w8) xs k d lt fits).fits }

-- the two halves of the sum
pair_is : (first second : List ℕ) → IsBlock first → IsBlock second → pair_value first second ≡ first ⊕ u128_times second
unfolding u128_times
pair_is first second is is' =
    let f = λ (i : ℕ). first_byte (slice_index (first ++ second) i) in
    ladder-append 16 16 f (λ i. refl)
    ∙ ap₂ (λ x y. x ⊕ stepped 16 y)
    (ladder-same 16 f (λ i. first_byte (slice_index first i))
    (λ i lt. ap first_byte (get_or_append_left first second 0 i (omega (arith, is.size)))) ∙ block_ladder first is)
    (ladder-same 16 (λ i. f (16 + i)) (λ i. first_byte (slice_index second i))
    (λ i lt.
    let place : 16 + i - 16 ≡ i = omega arith in
    ap first_byte (get_or-append_right first second 16 (16 + i) 0 is.size (omega arith) ∙ ap (slice_index second) place))
    ∙ block_ladder second is')

module _ (table : List ℕ) (h : List ℕ) (size : Sized h) (products : AreProducts h table) where
  -- the bytes that all rows give for byte x of the block
  column_value : (x : ℕ) → x < 256
      → ladder 16 (λ r. first_byte (bit_xor (slice_index table (16 * r + x / 16)) (slice_index table (256 + 16 * r + x % 16)))) ≡ first_byte x • h
  column_value x below =
      let m = x / 16 in
      let n = x % 16 in
      let high = column table m in
      let low = column table (256 + n) in
      let is_high : high ≡ first_byte (16 * m) • h = products.high m (omega arith) in
      let is_low : low ≡ first_byte n • h = products.low n (omega arith) in
      let b_high : IsBlock high = subst IsBlock (sym is_high) (IsBlock-product (first_byte (16 * m)) h) in
      let b_low : IsBlock low = subst IsBlock (sym is_low) (IsBlock-product (first_byte n) h) in
      let f = λ (r : ℕ). first_byte (slice_index high r) in
      let g = λ (r : ℕ). first_byte (slice_index low r) in
      let digits : bit_xor (16 * m) n ≡ x =
      (let turn : 16 * m ≡ m * 2 ^ 4 = omega arith in
      let sum : m * 2 ^ 4 + n ≡ x = omega arith in
      ap (λ t. bit_xor t n) turn ∙ xor_shifted m 4 n (omega arith) ∙ sum) in
      ladder-same 16 (λ r. first_byte (bit_xor (slice_index table (16 * r + m)) (slice_index table (256 + 16 * r + n)))) (λ r. f r ⊕ g r)
      (λ r lt.
      let place : 256 + 16 * r + n ≡ 16 * r + (256 + n) = omega arith in
      ap₂ (λ a b. first_byte (bit_xor a b))
      (sym (get_or-each 16 (λ r. slice_index table (16 * r + m)) r 0 lt))
      (ap (slice_index table) place ∙ sym (get_or-each 16 (λ r. slice_index table (16 * r + (256 + n))) r 0 lt)))
      ∙ ladder-xor 16 f g (λ r. refl) (λ r. refl)
      ∙ ap₂ (λ x y. x ⊕ y) (block_ladder high b_high ∙ is_high) (block_ladder low b_low ∙ is_low)
      ∙ sym (product_xor_left (first_byte (16 * m)) (first_byte n) h refl refl size)
      ∙ ap (λ t. first_byte t • h) digits

  pub product_rows : (x high low : List ℕ) → IsBlock x
      → ((i : ℕ) → i < 16 → slice_index high i ≡ slice_index x i / 16) → ((i : ℕ) → i < 16 → slice_index low i ≡ slice_index x i % 16)
      → ladder 16 (λ r. ladder 16 (λ i. first_byte (row_byte table high low r i))) ≡ x • h
  product_rows x high low is is_high is_low =
      let g = λ (r i : ℕ). first_byte (row_byte table high low r i) in
      ladder-swap 16 16 g (λ r i. refl)
      ∙ ladder-same 16 (λ i. ladder 16 (λ r. g r i)) (λ i. first_byte (slice_index x i) • h)
      (λ i lt.
      ladder-same 16 (λ r. g r i)
      (λ r. first_byte (bit_xor (slice_index table (16 * r + slice_index x i / 16)) (slice_index table (256 + 16 * r + slice_index x i % 16))))
      (λ r _. ap₂ (λ a b. first_byte (bit_xor (slice_index table (16 * r + a)) (slice_index table (256 + 16 * r + b)))) (is_high i lt) (is_low i lt))
      ∙ column_value (slice_index x i) (is.bytes i 0 (omega (arith, is.size))))
      ∙ ladder-times 16 (λ i. first_byte (slice_index x i)) h (λ i. refl) size
      ∙ ap (λ b. b • h) (block_ladder x is)

  -- the sum after the last turn
  pub product_end : (x high low first second result : List ℕ) (k : ℕ) → IsBlock x
      → ((i : ℕ) → i < 16 → slice_index high i ≡ slice_index x i / 16) → ((i : ℕ) → i < 16 → slice_index low i ≡ slice_index x i % 16)
      → IsBlock first → IsBlock second → k ≡ 16
      → pair_value first second ≡ ladder k (λ r. ladder 16 (λ i. first_byte (row_byte table high low (16 - k + r) i)))
      → result ≡ first ⊕ u128_times second → result ≡ x • h
  product_end x high low first second result k is is_high is_low is_first is_second all value e =
      e ∙ sym (pair_is first second is_first is_second) ∙ value
      ∙ ap (λ n. ladder n (λ r. ladder 16 (λ i. first_byte (row_byte table high low (16 - n + r) i)))) all
      ∙ ladder-same 16 (λ r. ladder 16 (λ i. first_byte (row_byte table high low (16 - 16 + r) i)))
      (λ r. ladder 16 (λ i. first_byte (row_byte table high low r i)))
      (λ r lt. (let place : 16 - 16 + r ≡ r = omega arith in ap (λ r. ladder 16 (λ i. first_byte (row_byte table high low r i))) place))
      ∙ product_rows x high low is is_high is_low

-- ---- the pieces of a turn

pub start_value : (W : ℕ → List ℕ) → pair_value (replicate 16 0) (replicate 16 0) ≡ ladder 0 W
unfolding ladder
start_value W = padded_value (replicate 16 0) refl ∙ block_ladder zero_block IsBlock-zero

pub start_of_two : (W : ℕ → List ℕ)
    → rows_value (replicate 16 0) (replicate 16 0) (replicate 16 0) (replicate 16 0) ≡ ladder 0 W
unfolding ladder
start_of_two W = ap (λ y. y ⊕ step • y) (start_value W) ∙ ap (λ y. zero_block ⊕ y) (product_zero step Sized-step)

pub moved_zeros : (x k : ℕ) (second : List ℕ) → (k ≡ 0 → x ≡ 0) → ((i : ℕ) → k ≤ i + 1 → slice_index second i ≡ 0)
    → (i : ℕ) → k + 1 ≤ i + 1 → slice_index (x ∷ each_below 15 (λ i. slice_index second i)) i ≡ 0
moved_zeros x k second empty zeros zero h = empty (omega arith)
moved_zeros x k second empty zeros (suc i) h = elim (cases_lt i 15) [
  | inl less ↦ get_or-each 15 (λ i. slice_index second i) i 0 less ∙ zeros i (omega arith)
  | inr past ↦ get_or_past (each_below 15 (λ i. slice_index second i)) i 0 (omega (arith, length-each 15 (λ i. slice_index second i)))
]

-- the sum of the bytes that row r gives for a block
abbrev pub row_sum : List ℕ → List ℕ → List ℕ → ℕ → List ℕ
row_sum table high low r = ladder 16 (λ i. first_byte (row_byte table high low r i))

pub looked_value : (table high low bytes : List ℕ) (r : ℕ)
    → ((i : ℕ) → i < 16 → slice_index bytes i
    ≡ bit_xor (slice_index table (16 * r + slice_index high i)) (slice_index table (256 + 16 * r + slice_index low i)))
    → ladder 16 (λ i. first_byte (slice_index bytes i)) ≡ row_sum table high low r
looked_value table high low bytes r looked =
    ladder-same 16 (λ i. first_byte (slice_index bytes i)) (λ i. first_byte (row_byte table high low r i)) (λ i lt. ap first_byte (looked i lt))

-- the high digits of bytes
pub small_digits : (bytes high : List ℕ) → IsBlock bytes
    → ((i : ℕ) → i < 16 → slice_index high i ≡ slice_index bytes i / 16) → (i : ℕ) → i < 16 → slice_index high i < 16
small_digits bytes high block is_high i h =
    let byte : slice_index bytes i < 256 = block.bytes i 0 (omega (arith, block.size)) in
    omega (arith, is_high i h)

-- ---- two products at once

-- the sum of the bytes of row r
abbrev pub row_value : List (List ℕ) → ℕ → List ℕ
row_value rows r = ladder 16 (λ i. first_byte (slice_index (slice_index_or rows r []) i))

-- that of the bytes that row r of a table gives for a block, and of the row r that has been looked up for another block
abbrev pub row_sums : List ℕ → List ℕ → List ℕ → List (List ℕ) → ℕ → List ℕ
row_sums table high low rows r = row_sum table high low r ⊕ row_value rows r

pub sum_value : (a b : List ℕ) → length a ≡ 16 → length b ≡ 16
    → ladder 16 (λ i. first_byte (slice_index (a ⊕ b) i)) ≡ ladder 16 (λ i. first_byte (slice_index a i)) ⊕ ladder 16 (λ i. first_byte (slice_index b i))
sum_value a b size size' =
    let f = λ (i : ℕ). first_byte (slice_index a i) in
    let g = λ (i : ℕ). first_byte (slice_index b i) in
    ladder-same 16 (λ i. first_byte (slice_index (a ⊕ b) i)) (λ i. f i ⊕ g i)
    (λ i lt.
    ap first_byte (ap (λ c. slice_index c i) (xor_by_index a b 16 size size')
    ∙ get_or-each 16 (λ i. bit_xor (slice_index a i) (slice_index b i)) i 0 lt))
    ∙ ladder-xor 16 f g (λ i. refl) (λ i. refl)

pub summed_value : (table high low one bytes : List ℕ) (rows : List (List ℕ)) (r : ℕ)
    → length one ≡ 16 → length (slice_index_or rows r []) ≡ 16 → bytes ≡ one ⊕ slice_index_or rows r []
    → ((i : ℕ) → i < 16 → slice_index one i
    ≡ bit_xor (slice_index table (16 * r + slice_index high i)) (slice_index table (256 + 16 * r + slice_index low i)))
    → ladder 16 (λ i. first_byte (slice_index bytes i)) ≡ row_sums table high low rows r
summed_value table high low one bytes rows r size size' is looked =
    ap (λ b. ladder 16 (λ i. first_byte (slice_index b i))) is
    ∙ sum_value one (slice_index_or rows r []) size size'
    ∙ ap (λ y. y ⊕ row_value rows r) (looked_value table high low one r looked)

-- the sum after the last turn
pub pair_end : (h table squares x high low y high' low' first second result : List ℕ) (rows : List (List ℕ)) (k : ℕ)
    → Sized h → AreProducts h table → AreProducts (h • h) squares
    → IsBlock x → ((i : ℕ) → i < 16 → slice_index high i ≡ slice_index x i / 16) → ((i : ℕ) → i < 16 → slice_index low i ≡ slice_index x i % 16)
    → IsBlock y → ((i : ℕ) → i < 16 → slice_index high' i ≡ slice_index y i / 16) → ((i : ℕ) → i < 16 → slice_index low' i ≡ slice_index y i % 16)
    → ((r : ℕ) → r < 16 → slice_index_or rows r [] ≡ each_below 16 (row_byte table high' low' r))
    → IsBlock first → IsBlock second → k ≡ 16
    → pair_value first second ≡ ladder k (λ r. row_sums squares high low rows (16 - k + r))
    → result ≡ first ⊕ u128_times second → result ≡ (x • h ⊕ y) • h
pair_end h table squares x high low y high' low' first second result rows k size p p' is_x is_high is_low is_y is_high' is_low' looked
    is_first is_second all value e =
    let F = row_sum squares high low in
    let G = row_value rows in
    let sF : (r : ℕ) → Sized (F r) = λ r. Sized-ladder 16 (λ i. first_byte (row_byte squares high low r i)) (λ i. refl) in
    let sG : (r : ℕ) → Sized (G r) = λ r. Sized-ladder 16 (λ i. first_byte (slice_index (slice_index_or rows r []) i)) (λ i. refl) in
    e ∙ sym (pair_is first second is_first is_second) ∙ value
    ∙ ap (λ n. ladder n (λ r. F (16 - n + r) ⊕ G (16 - n + r))) all
    ∙ ladder-same 16 (λ r. F (16 - 16 + r) ⊕ G (16 - 16 + r)) (λ r. F r ⊕ G r)
    (λ r lt. (let place : 16 - 16 + r ≡ r = omega arith in ap (λ r. F r ⊕ G r) place))
    ∙ ladder-xor 16 F G sF sG
    ∙ ap₂ (λ a b. a ⊕ b)
    (product_rows squares (h • h) (Sized-product h h) p' x high low is_x is_high is_low)
    (ladder-same 16 G (row_sum table high' low')
    (λ r lt.
    looked_value table high' low' (slice_index_or rows r []) r
    (λ i within. ap (λ b. slice_index b i) (looked r lt) ∙ get_or-each 16 (row_byte table high' low' r) i 0 within))
    ∙ product_rows table h size p y high' low' is_y is_high' is_low')
    ∙ ap (λ a. a ⊕ y • h) (sym (product_assoc x h h is_x.size size size))
    ∙ sym (product_xor_left (x • h) y h (Sized-product x h) is_y.size size)
