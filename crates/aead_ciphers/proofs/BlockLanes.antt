-- Blocks as four words of 32 bits, and the lanes of vectors of them.
use Rattle.std.proofs
use proofs.Common.{◌≡◌, ℕ, ◌+◌, ◌-◌, ◌*◌, ◌/◌, ◌%◌, ◌^◌, ◌<◌, Bool, true, false, List, [], ◌∷◌, length, replicate, slice_index, set, length-set, get_or-set_same, get_or-set_other, ◌≢◌, fold, Fits, w32, bit_and, bit_or, bit_xor, refl, sym, ap, ap₂, ◌∙◌, arith, if◌then◌else◌, ◌==◌}
use Rattle.std.specs
use specs.Simd.Lanes.{Each1, fold_l, zip2}
use specs.Int.Bits.{xor_zero_r}
use proofs.Math.Dec.{lit<}
use proofs.lemmas.Nat.{or_shifted, xor_block, xor_lt}
use proofs.lemmas.Simd.{Each1-get_or, get_or-zip2, get_or-replicate, length-zip2}
use Rattle.aead_ciphers.specs.Multiples.{entry, number_of_words, place}
use Rattle.aead_ciphers.proofs.GhashBits.{mask, masked}
pub use Rattle.aead_ciphers_base.proofs.PlaneBlocks.{by_four}

-- ---- a word added under a mask

added_under_mask : (s w x : ℕ) → x < 2 → w < 2 ^ 32 → bit_xor s (bit_and w (mask 32 x)) ≡ (if x == 1 then bit_xor s w else s)
added_under_mask s w x small below = ap (bit_xor s) (masked 32 w x small below) ∙ go _
  where
    go : (b : Bool) → bit_xor s (if b then w else 0) ≡ (if b then bit_xor s w else s)
    go false = xor_zero_r s
    go true = refl

-- the masks of `add_chosen`: all ones in each lane whose highest bit is set, and zeros in the others
abbrev pub masks : List ℕ → List ℕ
masks bits = zip2 (λ a b. (a + (2 ^ 32 - b)) % 2 ^ 32) (replicate 4 0) (zip2 (λ x n. x / 2 ^ n) bits (replicate 4 31))

pub lane-chosen : (sum bits words : List ℕ) (j : ℕ) → length sum ≡ 4 → length bits ≡ 4 → length words ≡ 4 →
    j < 4 → slice_index bits j < 2 ^ 32 → slice_index words j < 2 ^ 32 →
    slice_index (zip2 bit_xor sum (zip2 bit_and words (masks bits))) j
    ≡ (if slice_index bits j / 2 ^ 31 == 1 then bit_xor (slice_index sum j) (slice_index words j) else slice_index sum j)
lane-chosen sum bits words j size_sum size_bits size_words within small below =
    let highest = zip2 (λ (x n : ℕ). x / 2 ^ n) bits (replicate 4 31) in
    let size_highest = length-zip2 (λ (x n : ℕ). x / 2 ^ n) bits (replicate 4 31) size_bits ∙ size_bits in
    let size_masks = length-zip2 (λ (a b : ℕ). (a + (2 ^ 32 - b)) % 2 ^ 32) (replicate 4 0) highest (sym size_highest) in
    let size_chosen = length-zip2 bit_and words (masks bits) (size_words ∙ sym size_masks) ∙ size_words in
    let highest_is =
    get_or-zip2 (λ (x n : ℕ). x / 2 ^ n) bits (replicate 4 31) j 0 0 0 (omega arith) (omega arith)
    ∙ ap (λ n. slice_index bits j / 2 ^ n) (get_or-replicate 4 j 31 0 within) in
    let mask_is =
    get_or-zip2 (λ (a b : ℕ). (a + (2 ^ 32 - b)) % 2 ^ 32) (replicate 4 0) highest j 0 0 0 (omega arith) (omega arith)
    ∙ ap₂ (λ a b. (a + (2 ^ 32 - b)) % 2 ^ 32) (get_or-replicate 4 j 0 0 within) highest_is in
    get_or-zip2 bit_xor sum (zip2 bit_and words (masks bits)) j 0 0 0 (omega arith) (omega arith)
    ∙ ap (bit_xor (slice_index sum j))
    (get_or-zip2 bit_and words _ j 0 0 0 (omega arith) (omega arith) ∙ ap (bit_and (slice_index words j)) mask_is)
    ∙ added_under_mask _ _ _ (omega arith) below

-- ---- the number of four words

abbrev join : ℕ → ℕ → ℕ
join n word = n * 2 ^ 32 + word

pub joined_is : (a b c d : ℕ) → a < 2 ^ 32 → b < 2 ^ 32 → c < 2 ^ 32 → d < 2 ^ 32 →
    bit_or (bit_or (bit_or (a * 2 ^ 96 % 2 ^ 128) (b * 2 ^ 64 % 2 ^ 128)) (c * 2 ^ 32 % 2 ^ 128)) d ≡ number_of_words (a ∷ b ∷ c ∷ d ∷ [])
joined_is a b c d small_a small_b small_c small_d =
    let first : a * 2 ^ 96 % 2 ^ 128 ≡ a * 2 ^ 96 = omega arith in
    let second : b * 2 ^ 64 % 2 ^ 128 ≡ b * 2 ^ 64 = omega arith in
    let third : c * 2 ^ 32 % 2 ^ 128 ≡ c * 2 ^ 32 = omega arith in
    let two : a * 2 ^ 96 + b * 2 ^ 64 ≡ (a * 2 ^ 32 + b) * 2 ^ 64 = omega arith in
    let three : (a * 2 ^ 32 + b) * 2 ^ 64 + c * 2 ^ 32 ≡ ((a * 2 ^ 32 + b) * 2 ^ 32 + c) * 2 ^ 32 = omega arith in
    ap (λ n. bit_or n d)
    (ap₂ bit_or (ap₂ bit_or first second ∙ or_shifted a 96 _ (omega arith) ∙ two) third
    ∙ or_shifted _ 64 _ (omega arith) ∙ three)
    ∙ or_shifted _ 32 d small_d
    ∙ ap (λ n. ((n * 2 ^ 32 + b) * 2 ^ 32 + c) * 2 ^ 32 + d) (let e : a ≡ 0 + a = omega arith in e)

-- a number by its four words
pub number-words : (n : ℕ) (xs : List ℕ) → n < 2 ^ 128 → ((j : ℕ) → j < 4 → slice_index xs j ≡ n / 2 ^ (96 - 32 * j) % 2 ^ 32) →
    number_of_words (slice_index xs 0 ∷ slice_index xs 1 ∷ slice_index xs 2 ∷ slice_index xs 3 ∷ []) ≡ n
number-words n xs below words =
    rw (words 0 (lit< tt), words 1 (lit< tt), words 2 (lit< tt), words 3 (lit< tt)) omega arith

-- words of 32 bits
abbrev pub AllSmall : List ℕ → Type 0
AllSmall [] = Unit {0}
AllSmall (x ∷ xs) = (x < 2 ^ 32) × AllSmall xs

number-xor-from : (n m : ℕ) (xs ys : List ℕ) → length xs ≡ length ys → AllSmall xs → AllSmall ys →
    fold join (bit_xor n m) (zip2 bit_xor xs ys) ≡ bit_xor (fold join n xs) (fold join m ys)
number-xor-from n m [] [] e small_x small_y = refl
number-xor-from n m (x ∷ xs) (y ∷ ys) e small_x small_y =
    ap (λ k. fold join k (zip2 bit_xor xs ys)) (sym (xor_block 32 n m x y small_x.0 small_y.0))
    ∙ number-xor-from (join n x) _ xs ys (omega arith) small_x.1 small_y.1
number-xor-from n m _ _ e small_x small_y = absurd (omega arith)

pub number-xor : (xs ys : List ℕ) → length xs ≡ length ys → AllSmall xs → AllSmall ys →
    number_of_words (zip2 bit_xor xs ys) ≡ bit_xor (number_of_words xs) (number_of_words ys)
number-xor xs ys e small_x small_y = number-xor-from 0 0 xs ys e small_x small_y

-- four words are added exactly if b is true
pub words_chosen : (b : Bool) (s0 s1 s2 s3 w0 w1 w2 w3 t0 t1 t2 t3 : ℕ) →
    let s = s0 ∷ s1 ∷ s2 ∷ s3 ∷ [] in let w = w0 ∷ w1 ∷ w2 ∷ w3 ∷ [] in AllSmall s → AllSmall w →
    t0 ≡ (if b then bit_xor s0 w0 else s0) → t1 ≡ (if b then bit_xor s1 w1 else s1) →
    t2 ≡ (if b then bit_xor s2 w2 else s2) → t3 ≡ (if b then bit_xor s3 w3 else s3) →
    number_of_words (t0 ∷ t1 ∷ t2 ∷ t3 ∷ []) ≡ (if b then bit_xor (number_of_words s) (number_of_words w)
    else number_of_words s)
words_chosen false s0 s1 s2 s3 w0 w1 w2 w3 t0 t1 t2 t3 small_s small_w e0 e1 e2 e3 = rw (e0, e1, e2, e3) refl
words_chosen true s0 s1 s2 s3 w0 w1 w2 w3 t0 t1 t2 t3 small_s small_w e0 e1 e2 e3 =
    rw (e0, e1, e2, e3) (number-xor (s0 ∷ s1 ∷ s2 ∷ s3 ∷ []) (w0 ∷ w1 ∷ w2 ∷ w3 ∷ []) refl small_s small_w)

-- ---- the lanes of four vectors

abbrev pub IsVector : List ℕ → Type 0
IsVector xs = (length xs ≡ 4) × Each1 (Fits w32) xs

pub lane-small : (xs : List ℕ) (j : ℕ) → IsVector xs → j < 4 → slice_index xs j < 2 ^ 32
lane-small xs j at within = (Each1-get_or (Fits w32) xs j 0 (omega arith) at.1).fits

-- lane j of four vectors
abbrev pub lane : List ℕ → List ℕ → List ℕ → List ℕ → ℕ → List ℕ
lane a b c d j = slice_index a j ∷ slice_index b j ∷ slice_index c j ∷ slice_index d j ∷ []

pub small-lane : (a b c d : List ℕ) (j : ℕ) → IsVector a → IsVector b → IsVector c → IsVector d → j < 4 → AllSmall (lane a b c d j)
small-lane a b c d j is_a is_b is_c is_d within =
    (lane-small a j is_a within, (lane-small b j is_b within, (lane-small c j is_c within, (lane-small d j is_d within, tt))))

small-xor : (xs ys : List ℕ) → AllSmall xs → AllSmall ys → AllSmall (zip2 bit_xor xs ys)
small-xor [] ys small_x small_y = tt
small-xor (x ∷ xs) [] small_x small_y = tt
small-xor (x ∷ xs) (y ∷ ys) small_x small_y = (xor_lt 32 x y small_x.0 small_y.0, small-xor xs ys small_x.1 small_y.1)

fold-lanes : (xs : List ℕ) → length xs ≡ 4 →
    fold_l bit_xor 0 xs ≡ bit_xor (bit_xor (bit_xor (bit_xor 0 (slice_index xs 0)) (slice_index xs 1)) (slice_index xs 2)) (slice_index xs 3)
fold-lanes (a ∷ b ∷ c ∷ d ∷ []) e = refl
fold-lanes _ e = absurd (omega arith)

-- small words, and their number
record Sum (xs : List ℕ) (n : ℕ) : Type 0 where
  small : AllSmall xs
  is : number_of_words xs ≡ n

sum_more : {xs : List ℕ} {n : ℕ} → Sum xs n → (ys : List ℕ) → length xs ≡ length ys → AllSmall ys
    → Sum (zip2 bit_xor xs ys) (bit_xor n (number_of_words ys))
sum_more {xs = xs} s ys e small = record {
  small = small-xor xs ys s.small small;
  is = number-xor xs ys e s.small small ∙ ap (λ k. bit_xor k (number_of_words ys)) s.is;
}

-- the sums of each vector's lanes are the words of the sum of the lanes
pub number-lanes : (a b c d : List ℕ) → IsVector a → IsVector b → IsVector c → IsVector d →
    number_of_words (fold_l bit_xor 0 a ∷ fold_l bit_xor 0 b ∷ fold_l bit_xor 0 c ∷ fold_l bit_xor 0 d ∷ [])
    ≡ bit_xor (bit_xor (bit_xor (bit_xor 0 (number_of_words (lane a b c d 0))) (number_of_words (lane a b c d 1))) (number_of_words (lane a b c d 2)))
    (number_of_words (lane a b c d 3))
number-lanes a b c d is_a is_b is_c is_d =
    let small : (j : ℕ) → j < 4 → AllSmall (lane a b c d j) =
    λ j within. small-lane a b c d j is_a is_b is_c is_d within in
    let zeros : Sum (0 ∷ 0 ∷ 0 ∷ 0 ∷ []) 0 = record {
      small = (lit< tt, (lit< tt, (lit< tt, (lit< tt, tt))));
      is = refl;
    } in
    let one = sum_more zeros (lane a b c d 0) refl (small 0 (omega arith)) in
    let two = sum_more one (lane a b c d 1) refl (small 1 (omega arith)) in
    let three = sum_more two (lane a b c d 2) refl (small 2 (omega arith)) in
    rw (fold-lanes a is_a.0, fold-lanes b is_b.0, fold-lanes c is_c.0, fold-lanes d is_d.0)
    (sum_more three (lane a b c d 3) refl (small 3 (omega arith))).is

-- the four words of a table's entry, from the place of the first
abbrev words_from : List ℕ → ℕ → List ℕ
words_from table p =
    slice_index table p ∷ slice_index table (128 + p) ∷ slice_index table (256 + p) ∷ slice_index table (384 + p) ∷ []

-- entry 32 * j + i of a table
pub entry_is : (table : List ℕ) (j i : ℕ) → j < 4 → i < 32 →
    entry table (32 * j + i)
    ≡ number_of_words (slice_index table (4 * i + j) ∷ slice_index table (128 + 4 * i + j)
    ∷ slice_index table (256 + 4 * i + j) ∷ slice_index table (384 + 4 * i + j) ∷ [])
entry_is table j i within inner =
    let first : 128 * 0 + place (32 * j + i) ≡ 4 * i + j = omega arith in
    let second : 128 * 1 + place (32 * j + i) ≡ 128 + 4 * i + j = omega arith in
    let third : 128 * 2 + place (32 * j + i) ≡ 256 + 4 * i + j = omega arith in
    let fourth : 128 * 3 + place (32 * j + i) ≡ 384 + 4 * i + j = omega arith in
    rw (first, second, third, fourth) refl

-- ---- four words written into a table

module _ (table : List ℕ) (p a b c d : ℕ) where
  abbrev one : List ℕ
  one = set table p a

  abbrev two : List ℕ
  two = set one (128 + p) b

  abbrev three : List ℕ
  three = set two (256 + p) c

  abbrev pub written : List ℕ
  written = set three (384 + p) d

  pub length-written : length written ≡ length table
  length-written = length-set three _ d ∙ length-set two _ c ∙ length-set one _ b ∙ length-set table p a

  written_other : (q : ℕ) → q ≢ p → q ≢ 128 + p → q ≢ 256 + p → q ≢ 384 + p → slice_index written q ≡ slice_index table q
  written_other q n0 n1 n2 n3 =
      get_or-set_other three _ q d 0 n3 ∙ get_or-set_other two _ q c 0 n2
      ∙ get_or-set_other one _ q b 0 n1 ∙ get_or-set_other table p q a 0 n0

  number-written : length table ≡ 512 → p < 128 →
      number_of_words (words_from written p) ≡ number_of_words (a ∷ b ∷ c ∷ d ∷ [])
  number-written size within =
      let size_1 = length-set table p a in
      let size_2 = length-set one (128 + p) b in
      let size_3 = length-set two (256 + p) c in
      rw (
        get_or-set_other three (384 + p) p d 0 (omega arith) ∙ get_or-set_other two (256 + p) p c 0 (omega arith)
            ∙ get_or-set_other one _ p b 0 (omega arith) ∙ get_or-set_same table p a 0 (omega arith),
        get_or-set_other three (384 + p) (128 + p) d 0 (omega arith) ∙ get_or-set_other two (256 + p) (128 + p) c 0 (omega arith)
            ∙ get_or-set_same one _ b 0 (omega (arith, size_1)),
        get_or-set_other three (384 + p) (256 + p) d 0 (omega arith) ∙ get_or-set_same two (256 + p) c 0 (omega (arith, size_1, size_2)),
        get_or-set_same three (384 + p) d 0 (omega (arith, size_1, size_2, size_3)),
      ) refl

-- entry k of a table
entry_at : (table : List ℕ) (k : ℕ) → entry table k ≡ number_of_words (words_from table (place k))
entry_at table k =
    let first : 128 * 0 + place k ≡ place k = omega arith in
    rw first refl

pub entry-written : (table : List ℕ) (k a b c d : ℕ) → length table ≡ 512 → k < 128 →
    entry (written table (place k) a b c d) k ≡ number_of_words (a ∷ b ∷ c ∷ d ∷ [])
entry-written table k a b c d size within =
    entry_at _ k ∙ number-written table _ a b c d size (omega arith)

pub entry-written_other : (table : List ℕ) (k a b c d j : ℕ) → k < 128 → j < k → entry (written table (place k) a b c d) j ≡ entry table j
entry-written_other table k a b c d j within below =
    let p = place k in
    let q = place j in
    let apart : q ≢ p = omega arith in
    let small_p : p < 128 = omega arith in
    let small_q : q < 128 = omega arith in
    let t = written table p a b c d in
    entry_at t j
    ∙ rw (
      written_other table p a b c d q apart (omega arith) (omega arith) (omega arith),
      written_other table p a b c d (128 + q) (omega arith) (omega arith) (omega arith) (omega arith),
      written_other table p a b c d (256 + q) (omega arith) (omega arith) (omega arith) (omega arith),
      written_other table p a b c d (384 + q) (omega arith) (omega arith) (omega arith) (omega arith),
    ) (sym (entry_at table j))

-- the lemmas that `add_chosen` names
pub ruleset chosen_lanes = (lane-chosen, lane-small)
