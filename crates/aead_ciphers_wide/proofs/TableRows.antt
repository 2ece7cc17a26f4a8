-- The rows of a table of products: the bytes at one place of the sums of four multiples, each the sum of two sums of two multiples.
use Rattle.std.proofs.Common.{◌≡◌, ℕ, ◌+◌, ◌-◌, ◌*◌, ◌/◌, ◌%◌, ◌<◌, ◌≤◌, ◌⊎◌, inl, inr, zero, suc, ◌==◌, if◌then◌else◌, Bool, true, false, bit_xor, List, [], ◌∷◌, ◌++◌, length, get_or, slice_index, slice_index_or, refl, sym, ap, ap₂, ◌∙◌, arith}
use Rattle.std.specs.Simd.Lanes.{put_chunk}
use Rattle.std.proofs.lemmas.Bool.{cases_lt}
use Rattle.std.proofs.lemmas.Simd.{get_or-put_chunk_above, get_or-put_chunk_at, get_or-put_chunk_below}
use Rattle.std.proofs.lemmas.List.{get_or_append_left, get_or-append_right}
use Rattle.std.specs.Int.Bits.{xor_assoc, xor_zero_l, xor_zero_r}
use Rattle.aead_ciphers_base.specs.Bytes.{each_below}
use Rattle.aead_ciphers_base.proofs.PlaneBlocks.{by_four}
use Rattle.aead_ciphers_base.proofs.EachLemmas.{each-same, get_or-each, length-each}
use Rattle.aead_ciphers_wide.specs.Products.{chosen_of_two, chosen_sum}
use Rattle.aead_ciphers_wide.proofs.ByteRows.{byte_at}

-- an item of two vectors, one after the other
pub joined_first : (a b : List ℕ) (k : ℕ) → length a ≡ 16 → k < 16 → get_or (a ++ b) k 0 ≡ slice_index a k
joined_first a b k size h = get_or_append_left a b 0 k (omega (arith, size))

-- an item of the first vector for t = 0, and of the second for t = 1
pub joined_item : (a b : List ℕ) (t k : ℕ) → length a ≡ 16 → t < 2 → k < 16
    → get_or (a ++ b) (16 * t + k) 0 ≡ slice_index (if t == 0 then a else b) k
joined_item a b zero k size less h =
    let place : 16 * zero + k ≡ k = omega arith in
    ap (λ i. get_or (a ++ b) i 0) place ∙ joined_first a b k size h
joined_item a b (suc zero) k size less h =
    let place : 16 * 1 + k - 16 ≡ k = omega arith in
    get_or-append_right a b 16 (16 * 1 + k) 0 size (omega arith) ∙ ap (slice_index b) place
joined_item a b (suc (suc t)) k size less h = absurd (omega arith)

-- an item of one of two vectors
picked : (t : Bool) (x y x' y' : List ℕ) (j q : ℕ) → slice_index x j ≡ slice_index x' q → slice_index y j ≡ slice_index y' q
    → slice_index (if t then x else y) j ≡ slice_index (if t then x' else y') q
picked true x y x' y' j q e f = e
picked false x y x' y' j q e f = f

-- the byte for the digit d in base 4, of bytes x and y: the sums of two at d are 0, y, x and their sum
module _ (zeros a b sum : List ℕ) (none : (i : ℕ) → i < 16 → slice_index zeros i ≡ 0)
    (added : (i : ℕ) → i < 16 → slice_index sum i ≡ bit_xor (slice_index a i) (slice_index b i)) where
  by_digit : (i p : ℕ) → p < 16
      → slice_index (if i / 2 % 2 == 0 then (if i % 2 == 0 then zeros else b) else (if i % 2 == 0 then a else sum)) p
      ≡ chosen_of_two (i % 4) (slice_index a p) (slice_index b p)
  by_digit i p h =
      let A = slice_index a p in
      let B = slice_index b p in
      let from = λ (high low : ℕ). slice_index (if high == 0 then (if low == 0 then zeros else b) else (if low == 0 then a else sum)) p in
      by_four (λ d. i % 4 ≡ d → from (i / 2 % 2) (i % 2) ≡ chosen_of_two (i % 4) A B)
      (λ e. let high : i / 2 % 2 ≡ 0 = omega arith in let low : i % 2 ≡ 0 = omega arith in
      ap₂ from high low ∙ none p h ∙ sym (xor_zero_l 0) ∙ ap (λ n. chosen_of_two n A B) (sym e))
      (λ e. let high : i / 2 % 2 ≡ 0 = omega arith in let low : i % 2 ≡ 1 = omega arith in
      ap₂ from high low ∙ sym (xor_zero_l B) ∙ ap (λ n. chosen_of_two n A B) (sym e))
      (λ e. let high : i / 2 % 2 ≡ 1 = omega arith in let low : i % 2 ≡ 0 = omega arith in
      ap₂ from high low ∙ sym (xor_zero_r A) ∙ ap (λ n. chosen_of_two n A B) (sym e))
      (λ e. let high : i / 2 % 2 ≡ 1 = omega arith in let low : i % 2 ≡ 1 = omega arith in
      ap₂ from high low ∙ added p h ∙ ap (λ n. chosen_of_two n A B) (sym e))
      (i % 4) (omega arith) refl

  -- the sums of two at four places, of bytes that were interleaved twice
  pub quarter : (low more result : List ℕ) (g h : ℕ) → g < 2 → h < 2
      → ((j : ℕ) → j < 16 → slice_index low j ≡ slice_index (if j % 2 == 0 then zeros else b) (8 * g + j / 2))
      → ((j : ℕ) → j < 16 → slice_index more j ≡ slice_index (if j % 2 == 0 then a else sum) (8 * g + j / 2))
      → ((i : ℕ) → i < 16 → slice_index result i ≡ slice_index (if i / 2 % 2 == 0 then low else more) (8 * h + (2 * (i / 4) + i % 2)))
      → (i : ℕ) → i < 16 → slice_index result i
      ≡ chosen_of_two (i % 4) (slice_index a (4 * (2 * g + h) + i / 4)) (slice_index b (4 * (2 * g + h) + i / 4))
  quarter low more result g h less_g less_h is_low is_more is i within =
      let j = 8 * h + (2 * (i / 4) + i % 2) in
      let p = 4 * (2 * g + h) + i / 4 in
      let less : j < 16 = omega arith in
      let bit : j % 2 ≡ i % 2 = omega arith in
      let place : 8 * g + j / 2 ≡ p = omega arith in
      let from = λ (t : Bool) (low : ℕ). if t then (if low == 0 then zeros else b) else (if low == 0 then a else sum) in
      is i within
      ∙ picked (i / 2 % 2 == 0) low more (if j % 2 == 0 then zeros else b) (if j % 2 == 0 then a else sum) j (8 * g + j / 2)
      (is_low j less) (is_more j less)
      ∙ ap₂ (λ low q. slice_index (from (i / 2 % 2 == 0) low) q) bit place
      ∙ by_digit i p (omega arith)

-- the sum of four is that of two sums of two
sum_of_four : (n x y z w : ℕ) → n < 16
    → bit_xor (chosen_of_two (n / 4) x y) (chosen_of_two (n % 4) z w) ≡ chosen_sum n 0 (x ∷ y ∷ z ∷ w ∷ [])
sum_of_four n x y z w less =
    let part = λ (d v : ℕ). if d == 1 then v else 0 in
    let eight : n / 4 / 2 % 2 ≡ n / 8 % 2 = omega arith in
    let two : n % 4 / 2 % 2 ≡ n / 2 % 2 = omega arith in
    let one : n % 4 % 2 ≡ n / 1 % 2 = omega arith in
    ap₂ bit_xor (ap (λ d. bit_xor (part d x) (part (n / 4 % 2) y)) eight)
    (ap₂ (λ d e. bit_xor (part d z) (part e w)) two one)
    ∙ sym (xor_assoc (bit_xor (part (n / 8 % 2) x) (part (n / 4 % 2) y)) (part (n / 2 % 2) z) (part (n / 1 % 2) w))

-- the row with the number 4 k + j, which is made of the sums of two at the places from 4 k to 4 k + 3
pub row_of_four : (a b c d high low row : List ℕ) (k j : ℕ) → j < 4
    → ((i : ℕ) → i < 16 → slice_index high i ≡ chosen_of_two (i % 4) (slice_index a (4 * k + i / 4)) (slice_index b (4 * k + i / 4)))
    → ((i : ℕ) → i < 16 → slice_index low i ≡ chosen_of_two (i % 4) (slice_index c (4 * k + i / 4)) (slice_index d (4 * k + i / 4)))
    → row ≡ each_below 16 (λ n. bit_xor (slice_index high (4 * j + n / 4)) (slice_index low (4 * j + n % 4)))
    → row ≡ each_below 16 (λ n. chosen_sum n 0
    (slice_index a (4 * k + j) ∷ slice_index b (4 * k + j) ∷ slice_index c (4 * k + j) ∷ slice_index d (4 * k + j) ∷ []))
row_of_four a b c d high low row k j less is_high is_low is =
    let p = 4 * k + j in
    is ∙ each-same 16 _ _ (λ n within.
    let high_digit : (4 * j + n / 4) % 4 ≡ n / 4 = omega arith in
    let high_place : 4 * k + (4 * j + n / 4) / 4 ≡ p = omega arith in
    let low_digit : (4 * j + n % 4) % 4 ≡ n % 4 = omega arith in
    let low_place : 4 * k + (4 * j + n % 4) / 4 ≡ p = omega arith in
    ap₂ bit_xor
    (is_high (4 * j + n / 4) (omega arith) ∙ ap₂ (λ e q. chosen_of_two e (slice_index a q) (slice_index b q)) high_digit high_place)
    (is_low (4 * j + n % 4) (omega arith) ∙ ap₂ (λ e q. chosen_of_two e (slice_index c q) (slice_index d q)) low_digit low_place)
    ∙ sum_of_four n (slice_index a p) (slice_index b p) (slice_index c p) (slice_index d p) within)

-- a byte of a table to which a row is written
row_at : (table row : List ℕ) (at n : ℕ) → length row ≡ 16 → at + 16 ≤ length table → n < 16
    → slice_index (put_chunk at table row) (at + n) ≡ slice_index row n
row_at table row at n size fits h = get_or-put_chunk_at at table row n 0 (omega (arith, size)) (omega (arith, size))

pub row_beside : (table row : List ℕ) (at q : ℕ) → length row ≡ 16 → (q < at) ⊎ (at + 16 ≤ q)
    → slice_index (put_chunk at table row) q ≡ slice_index table q
row_beside table row at q size (inl less) = get_or-put_chunk_below at table row q 0 less
row_beside table row at q size (inr more) = get_or-put_chunk_above at table row q 0 (omega (arith, size))

-- row k of a half is written, after those before it
pub row_more : (table row : List ℕ) (at k : ℕ) (f : ℕ → ℕ → ℕ) → at + 16 * k + 16 ≤ length table
    → ((r n : ℕ) → r < k → n < 16 → slice_index table (at + (16 * r + n)) ≡ f r n) → row ≡ each_below 16 (f k)
    → (r n : ℕ) → r < k + 1 → n < 16 → slice_index (put_chunk (at + 16 * k) table row) (at + (16 * r + n)) ≡ f r n
row_more table row at k f fits held is r n less h =
    let size : length row ≡ 16 = ap length is ∙ length-each 16 (f k) in
    elim (cases_lt r k) [
      | inl earlier ↦ row_beside table row (at + 16 * k) (at + (16 * r + n)) size (inl (omega arith)) ∙ held r n earlier h
      | inr later ↦
          let here : k ≡ r = omega arith in
          let place : at + (16 * r + n) ≡ at + 16 * k + n = omega arith in
          ap (slice_index (put_chunk (at + 16 * k) table row)) place ∙ row_at table row (at + 16 * k) n size fits h
          ∙ ap (λ row. slice_index row n) is ∙ get_or-each 16 (f k) n 0 h ∙ ap (λ r. f r n) here
    ]

-- the bytes of a half of a table
half_is : (blocks : List (List ℕ)) (table : List ℕ) (half at : ℕ) → at ≡ 256 * half
    → ((r n : ℕ) → r < 16 → n < 16 → slice_index table (at + (16 * r + n))
    ≡ chosen_sum n 0 (each_below 4 (λ k. slice_index (slice_index_or blocks (4 * half + k) []) r)))
    → (q : ℕ) → q / 256 ≡ half → slice_index table q ≡ byte_at blocks q
half_is blocks table half at place is q within =
    let byte = λ (from : ℕ). chosen_sum (q % 16) 0 (each_below 4 (λ k. slice_index (slice_index_or blocks (from + k) []) (q / 16 % 16))) in
    let here : q ≡ at + (16 * (q / 16 % 16) + q % 16) = omega arith in
    let from : 4 * half ≡ q / 256 * 4 = omega arith in
    ap (slice_index table) here ∙ is (q / 16 % 16) (q % 16) (omega arith) (omega arith) ∙ ap byte from

-- a table whose halves were written one after the other
pub halves_written : (blocks : List (List ℕ)) (first both : List ℕ)
    → ((r n : ℕ) → r < 16 → n < 16 → slice_index first (0 + (16 * r + n))
    ≡ chosen_sum n 0 (each_below 4 (λ k. slice_index (slice_index_or blocks (4 * 0 + k) []) r)))
    → ((r n : ℕ) → r < 16 → n < 16 → slice_index both (256 + (16 * r + n))
    ≡ chosen_sum n 0 (each_below 4 (λ k. slice_index (slice_index_or blocks (4 * 1 + k) []) r)))
    → ((q : ℕ) → (q < 256) ⊎ (256 + 256 ≤ q) → slice_index both q ≡ slice_index first q)
    → (q : ℕ) → q < 512 → slice_index both q ≡ byte_at blocks q
halves_written blocks first both is_first is_second kept q within = elim (cases_lt q 256) [
  | inl less ↦ kept q (inl less) ∙ half_is blocks first 0 0 (omega arith) is_first q (omega arith)
  | inr more ↦ half_is blocks both 1 256 (omega arith) is_second q (omega arith)
]
