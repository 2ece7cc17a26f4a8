-- The transpositions by which four blocks become eight planes.
use Rattle.std.proofs.Common.{min, set, ◌≡◌, ℕ, zero, suc, ◌+◌, ◌-◌, ◌*◌, ◌/◌, ◌%◌, ◌^◌, ◌<◌, ◌≤◌, Bool, true, false, List, [], ◌++◌, length, take, drop, refl, sym, ap, ap₂, ◌∙◌, arith, inl, inr, bit_xor, bit_and, slice_index, slice_index_or, nat_lt, if◌then◌else◌, div-one, ◌==◌, pow_pos, get_or-take, get_or-drop, length-take, length-take-le, length-drop, take_all, take-append-drop, ltb-true, lt-ltb}
use Rattle.std.specs.Int.{bit_at, w64, to_le_bytes, from_le_bytes}
use Rattle.std.proofs.lemmas
use lemmas.Nat.{le_bytes_8}
use lemmas.List.{get_or_append_left, get_or-append_right, get_or_past}
use lemmas.List.Edits.{fill_by_more}
use lemmas.List.FromFn.{fill_by_all}
use lemmas.Nat.Bits.{bit_at_xor, bit_at_and, bit_at-lt, bit_at_cat_low, bit_at_cat_high, bit_at-zero}
use lemmas.Bool.{cases_lt}
use lemmas.Bool.Decides.{nat_tests}
use Rattle.aead_ciphers_base.specs
use specs.ByteField.{bits_of, value_of}
use specs.Planes.{plane_byte, plane_block, block_at, word_bit, exchanged_from}
use specs.declared.aes.pack.TheConstants.{LOW, EIGHTHS}
use Rattle.aead_ciphers_base.proofs
use proofs.NumberBits.{bit_at-mod, bit_at-shr, by_digits, all_below, all_below_at, same_below, same_in_table, value_of-bits_of}
use proofs.PlaneBits.{bits_of_at}
use proofs.PlaneBlocks.{state_is}
use proofs.EachLemmas.{get_or-each}

-- bit i of `(x & m) << s`, where v is the bit of x that comes to it
shifted_and : (x m s i v : ℕ) → i < 64 → (s ≤ i → bit_at x (i - s) ≡ v)
    → bit_at (bit_and x m * 2 ^ s % 2 ^ 64) i ≡ min v (bit_at (m * 2 ^ s % 2 ^ 64) i)
shifted_and x m s i v hi comes =
    let cut : (t : ℕ) → bit_at (t * 2 ^ s % 2 ^ 64) i ≡ bit_at (t * 2 ^ s + 0) i = λ t.
    let plain : t * 2 ^ s ≡ t * 2 ^ s + 0 = omega arith in
    bit_at-mod _ 64 i hi ∙ ap (λ n. bit_at n i) plain in
    elim (cases_lt i s) [
      | inl less ↦
          let low : (t : ℕ) → bit_at (t * 2 ^ s % 2 ^ 64) i ≡ 0 = λ t. cut t ∙ bit_at_cat_low t s 0 i less ∙ bit_at-zero i in
          let none : 0 ≡ min v 0 = omega arith in
          low (bit_and x m) ∙ none ∙ ap (min v) (sym (low m))
      | inr more ↦
          let high : (t : ℕ) → bit_at (t * 2 ^ s % 2 ^ 64) i ≡ bit_at t (i - s) = λ t. cut t ∙ bit_at_cat_high t s 0 i (pow_pos s) more in
          high (bit_and x m) ∙ bit_at_and x m (i - s) ∙ ap₂ min (comes more) (sym (high m))
    ]

-- ---- the delta swap of two words

low_is : (k q : ℕ) → k < 6 → q < 64 → bit_at (slice_index LOW k) q ≡ 1 - bit_at q k
low_is k q = same_in_table (λ j. bit_at (slice_index LOW j)) (λ j t. 1 - bit_at t j) 6 64 k q refl

low_shifted_is : (k q : ℕ) → k < 6 → q < 64 → bit_at (slice_index LOW k * 2 ^ (2 ^ k) % 2 ^ 64) q ≡ bit_at q k
low_shifted_is k q = same_in_table (λ j. bit_at (slice_index LOW j * 2 ^ (2 ^ j) % 2 ^ 64)) (λ j t. bit_at t j) 6 64 k q refl

-- modulo 2, x + (x + y) d and y + (x + y) (1 - d) are x for d = 0 and y for d = 1
chosen_digit : (x y d : ℕ) → x < 2 → y < 2 → d < 2
    → ((x + min ((x + y) % 2) d) % 2 ≡ (if d == 0 then x else y)) × ((y + min ((x + y) % 2) (1 - d)) % 2 ≡ (if d == 0 then x else y))
chosen_digit x y zero hx hy hd = omega arith
chosen_digit x y (suc zero) hx hy hd = omega arith
chosen_digit x y _ hx hy hd = absurd (omega arith)

module _ (a b k q : ℕ) (hk : k < 6) (hq : q < 64) where
  abbrev difference : ℕ
  difference = bit_xor (a / 2 ^ (2 ^ k)) b

  difference_bit : (t : ℕ) → bit_at difference t ≡ (bit_at a (t + 2 ^ k) + bit_at b t) % 2
  difference_bit t = bit_at_xor (a / 2 ^ (2 ^ k)) b t ∙ ap (λ d. (d + bit_at b t) % 2) (bit_at-shr a (2 ^ k) t)

  pub delta_swap_first : bit_at (bit_xor a (bit_and difference (slice_index LOW k) * 2 ^ (2 ^ k) % 2 ^ 64)) q
      ≡ (if bit_at q k == 0 then bit_at a q else bit_at b (q - 2 ^ k))
  delta_swap_first =
      let place : 2 ^ k ≤ q → q - 2 ^ k + 2 ^ k ≡ q = λ more. omega arith in
      bit_at_xor a _ q
      ∙ ap (λ t. (bit_at a q + t) % 2)
      (shifted_and difference (slice_index LOW k) (2 ^ k) q ((bit_at a q + bit_at b (q - 2 ^ k)) % 2) hq
      (λ more. difference_bit (q - 2 ^ k) ∙ ap (λ t. (bit_at a t + bit_at b (q - 2 ^ k)) % 2) (place more))
      ∙ ap (min _) (low_shifted_is k q hk hq))
      ∙ (chosen_digit (bit_at a q) (bit_at b (q - 2 ^ k)) (bit_at q k) (bit_at-lt a q) (bit_at-lt b _) (bit_at-lt q k)).0

  pub delta_swap_second : bit_at (bit_xor b (bit_and difference (slice_index LOW k))) q
      ≡ (if bit_at q k == 0 then bit_at a (q + 2 ^ k) else bit_at b q)
  delta_swap_second =
      bit_at_xor b _ q
      ∙ ap (λ t. (bit_at b q + t) % 2) (bit_at_and difference _ q ∙ ap₂ min (difference_bit q) (low_is k q hk hq))
      ∙ (chosen_digit (bit_at a (q + 2 ^ k)) (bit_at b q) (bit_at q k) (bit_at-lt a _) (bit_at-lt b q) (bit_at-lt q k)).1

-- ---- the exchange of digits in eight words

-- q + 2^k is a place if digit k of q is zero
upper_lt : (k q : ℕ) → k < 6 → q < 64 → bit_at q k ≡ 0 → q + 2 ^ k < 64
upper_lt k q hk hq e =
    let place = rw e at (same_in_table (λ j t. (if bit_at t j == 0 then t + 2 ^ j else t) / 64) (λ j t. 0) 6 64 k q refl hk hq) in
    omega arith

pub word_bit-at : (w : List ℕ) (i q n : ℕ) → q < 64 → n ≡ 64 * i + q → word_bit w n ≡ bit_at (slice_index w i) q
unfolding word_bit
word_bit-at w i q n h e =
    let word : n / 64 ≡ i = omega arith in
    let place : n % 64 ≡ q = omega arith in
    ap₂ (λ j t. bit_at (slice_index w j) t) word place

-- bit n of the eight words `new` is bit `source n` of the words `old`
abbrev pub Moved : List ℕ → List ℕ → (ℕ → ℕ) → Type 0
Moved old new source = (n : ℕ) → n < 512 → word_bit new n ≡ word_bit old (source n)

-- `exchange_digits`: if words 2 i and 2 i + 1 of r are what `delta_swap` makes of words i and i + 4 of w
pub exchange_digits_is : (w r : List ℕ) (k : ℕ) → k < 6
    → ((i : ℕ) → i < 4 → (q : ℕ) → q < 64
    → bit_at (slice_index r (2 * i)) q ≡ (if bit_at q k == 0 then bit_at (slice_index w i) q else bit_at (slice_index w (i + 4)) (q - 2 ^ k)))
    → ((i : ℕ) → i < 4 → (q : ℕ) → q < 64
    → bit_at (slice_index r (2 * i + 1)) q ≡ (if bit_at q k == 0 then bit_at (slice_index w i) (q + 2 ^ k) else bit_at (slice_index w (i + 4)) q))
    → Moved w r (exchanged_from k)
exchange_digits_is w r k hk first second n hn =
    let digit = bit_at-mod n 6 k hk in
    let even = first (n / 128) (omega arith) (n % 64) (omega arith) in
    let odd = second (n / 128) (omega arith) (n % 64) (omega arith) in
    by_digits (λ h d. n / 64 % 2 ≡ h → bit_at n k ≡ d → word_bit r n ≡ word_bit w (64 * (n / 128 + 4 * d) + (n % 64 + h * 2 ^ k - d * 2 ^ k)))
    (n / 64 % 2) (bit_at n k) (omega arith) (bit_at-lt n k)
    (λ eh ed. word_bit-at r _ _ n (omega arith) (omega arith) ∙ (rw (digit, ed) at even)
    ∙ sym (word_bit-at w _ _ _ (omega arith) (omega arith)))
    (λ eh ed. word_bit-at r _ _ n (omega arith) (omega arith) ∙ (rw (digit, ed) at even)
    ∙ sym (word_bit-at w _ _ _ (omega arith) (omega arith)))
    (λ eh ed. word_bit-at r _ _ n (omega arith) (omega arith) ∙ (rw (digit, ed) at odd)
    ∙ sym (word_bit-at w _ _ _ (upper_lt k (n % 64) hk (omega arith) (digit ∙ ed)) (omega arith)))
    (λ eh ed. word_bit-at r _ _ n (omega arith) (omega arith) ∙ (rw (digit, ed) at odd)
    ∙ sym (word_bit-at w _ _ _ (omega arith) (omega arith)))
    refl refl

-- ---- words and bytes

-- the words that are read from the halves of a block give its bytes back
pub words_of_block : (b : List ℕ) (low high : ℕ) → length b ≡ 16 → ((i : ℕ) → slice_index b i < 256)
    → low ≡ from_le_bytes w64 (take 8 b) → high ≡ from_le_bytes w64 (take 8 (drop 8 b)) → to_le_bytes w64 low ++ to_le_bytes w64 high ≡ b
words_of_block b low high len fits e_low e_high =
    let first : (i : ℕ) → slice_index (take 8 b) i < 256 = λ i. elim (cases_lt i 8) [
      | inl less ↦ rw (get_or-take 8 b i 0 less) (fits i)
      | inr more ↦ rw (get_or_past (take 8 b) i 0 (omega (arith, length-take 8 b))) (omega arith)
    ] in
    let size : length (drop 8 b) ≡ 8 = omega (arith, length-drop 8 b) in
    let second : (i : ℕ) → slice_index (drop 8 b) i < 256 = λ i. rw (get_or-drop 8 b i 0) (fits (8 + i)) in
    ap₂ ◌++◌
    (le_bytes_8 (take 8 b) low (length-take-le 8 b (omega arith)) first e_low)
    (le_bytes_8 (drop 8 b) high size second (e_high ∙ ap (from_le_bytes w64) (take_all 8 (drop 8 b) (omega arith))))
    ∙ take-append-drop 8 b

byte_is : (n j : ℕ) → j < 8 → slice_index (to_le_bytes w64 n) j ≡ n / 2 ^ (8 * j) % 2 ^ 8
byte_is n zero h = ap (λ t. t % 256) (sym (div-one n))
byte_is n (suc j) h = get_or-each 8 (λ i. n / 2 ^ (8 * i) % 2 ^ 8) (suc j) 0 h

-- byte j of a word that has there the bits of the planes at p
byte_of_planes : (word j p : ℕ) (planes : List ℕ) → j < 8 → ((b : ℕ) → b < 8 → bit_at word (8 * j + b) ≡ bit_at (slice_index planes b) p)
    → slice_index (to_le_bytes w64 word) j ≡ plane_byte planes p
unfolding plane_byte
byte_of_planes word j p planes hj same =
    let n = word / 2 ^ (8 * j) % 2 ^ 8 in
    byte_is word j hj ∙ sym (value_of-bits_of 8 n (omega arith))
    ∙ ap value_of (fill_by_all (λ b. bit_at (slice_index planes b) p == 1) (bits_of 8 n) 8 false refl
    (λ b hb.
    let place : b + 8 * j ≡ 8 * j + b = omega arith in
    bits_of_at 8 n b hb ∙ ap (λ t. t == 1) (bit_at-mod _ 8 b hb ∙ bit_at-shr word (8 * j) b ∙ ap (bit_at word) place ∙ same b hb)))

-- ---- the transpositions

abbrev pub bytes_from : ℕ → ℕ
bytes_from n = n / 8 % 8 * 64 + n / 64 * 8 + n % 8

abbrev pub bits_from : ℕ → ℕ
bits_from n = n % 8 * 64 + n / 8 % 8 * 8 + n / 64

abbrev pub within : (ℕ → ℕ) → Bool
within f = all_below (λ n. nat_lt (f n) 512) 512

pub three_exchanges : (w x y r : List ℕ) (a b c : ℕ) (source : ℕ → ℕ)
    → within (exchanged_from c) ≡ true → within (exchanged_from b) ≡ true
    → all_below (λ n. exchanged_from a (exchanged_from b (exchanged_from c n)) == source n) 512 ≡ true
    → Moved w x (exchanged_from a) → Moved x y (exchanged_from b) → Moved y r (exchanged_from c) → Moved w r source
three_exchanges w x y r a b c source test_c test_b test hx hy hr n h =
    let stay = λ (f : ℕ → ℕ) (t : within f ≡ true) (m : ℕ) (lt : m < 512). ltb-true (f m) 512 (all_below_at (λ i. nat_lt (f i) 512) 512 m t lt) in
    let lt_c = stay (exchanged_from c) test_c n h in
    let lt_b = stay (exchanged_from b) test_b _ lt_c in
    hr n h ∙ hy _ lt_c ∙ hx _ lt_b
    ∙ ap (word_bit w) (same_below (λ i. exchanged_from a (exchanged_from b (exchanged_from c i))) source 512 n test h)

-- words 2 k and 2 k + 1 are block k
abbrev pub HoldsBlocks : List ℕ → List (List ℕ) → Type 0
HoldsBlocks words blocks = (k : ℕ) → k < 4
    → to_le_bytes w64 (slice_index words (2 * k)) ++ to_le_bytes w64 (slice_index words (2 * k + 1)) ≡ slice_index_or blocks k []

-- bit b of byte p of the words is bit p of plane b
abbrev IsPacked : List ℕ → List ℕ → Type 0
IsPacked words planes = (p b : ℕ) → p < 64 → b < 8 → word_bit planes (64 * b + p) ≡ word_bit words (8 * p + b)

module _ (words turned planes : List ℕ) (blocks : List (List ℕ)) where
  -- byte j of word i
  byte_of_word : IsPacked words planes → (i j p : ℕ) → 8 * i + j ≡ p → j < 8 → p < 64
      → slice_index (to_le_bytes w64 (slice_index words i)) j ≡ plane_byte planes p
  byte_of_word packed i j p e hj hp =
      byte_of_planes (slice_index words i) j p planes hj
      (λ b hb. sym (word_bit-at words i (8 * j + b) (8 * p + b) (omega arith) (omega arith)) ∙ sym (packed p b hp hb) ∙ word_bit-at planes b p _ hp refl)

  -- byte j of block k
  byte_of_block : IsPacked words planes → HoldsBlocks words blocks → (k j : ℕ) → k < 4 → j < 16
      → slice_index (slice_index_or blocks k []) j ≡ plane_byte planes (16 * k + j)
  byte_of_block packed held k j hk hj =
      let low = to_le_bytes w64 (slice_index words (2 * k)) in
      let high = to_le_bytes w64 (slice_index words (2 * k + 1)) in
      ap (λ b. slice_index b j) (sym (held k hk))
      ∙ elim (cases_lt j 8) [
        | inl less ↦ get_or_append_left low high 0 j less ∙ byte_of_word packed (2 * k) j _ (omega arith) less (omega arith)
        | inr more ↦
            get_or-append_right low high 8 j 0 refl more
            ∙ byte_of_word packed (2 * k + 1) (j - 8) _ (omega arith) (omega arith) (omega arith)
      ]

  pub packed_byte : Moved words turned bytes_from → Moved turned planes bits_from → HoldsBlocks words blocks
      → (p : ℕ) → p < 64 → plane_byte planes p ≡ slice_index (slice_index_or blocks (p / 16) []) (p % 16)
  packed_byte bytes bits held p hp =
      let place : 16 * (p / 16) + p % 16 ≡ p = omega arith in
      let packed : IsPacked words planes = λ q b hq hb. bits _ (omega arith) ∙ bytes _ (omega arith)
      ∙ ap (word_bit words) (same_in_table (λ q b. bytes_from (bits_from (64 * b + q))) (λ q b. 8 * q + b) 64 8 q b refl hq hb) in
      sym (byte_of_block packed held (p / 16) (p % 16) (omega arith) (omega arith) ∙ ap (plane_byte planes) place)

  pub unpacked_block : Moved planes turned bits_from → Moved turned words bytes_from → HoldsBlocks words blocks
      → (k : ℕ) → k < 4 → slice_index_or blocks k [] ≡ plane_block planes k
  unfolding block_at
  unpacked_block bits bytes held k hk =
      let packed : IsPacked words planes = λ q b hq hb. sym (bytes _ (omega arith) ∙ bits _ (omega arith)
      ∙ ap (word_bit planes) (same_in_table (λ q b. bits_from (bytes_from (8 * q + b))) (λ q b. 64 * b + q) 64 8 q b refl hq hb)) in
      state_is (λ r c. plane_byte planes (16 * k + (r + 4 * c))) _ (ap length (sym (held k hk)))
      (λ j hj.
      let place : 16 * k + j ≡ 16 * k + (j % 4 + 4 * (j / 4)) = omega arith in
      byte_of_block packed held k j hk hj ∙ ap (plane_byte planes) place)

-- ---- every eighth place

-- for each q below b, plane q is the word shifted right by q
abbrev pub IsSpread : ℕ → List ℕ → ℕ → Type 0
IsSpread word planes b = (q : ℕ) → q < b → slice_index planes q ≡ word / 2 ^ q

pub spread_more : (word : ℕ) (planes : List ℕ) (b : ℕ) → b < length planes → IsSpread word planes b
    → IsSpread word (set planes b (word / 2 ^ b)) (b + 1)
spread_more word planes b fits before = fill_by_more (λ q. word / 2 ^ q) planes b 0 fits before

pub spread_byte : (word : ℕ) (planes : List ℕ) → IsSpread word planes 8 → (j : ℕ) → j < 8
    → plane_byte planes (8 * j) ≡ slice_index (to_le_bytes w64 word) j
spread_byte word planes h j hj =
    sym (byte_of_planes word j (8 * j) planes hj
    (λ b hb. sym (ap (λ t. bit_at t (8 * j)) (h b hb) ∙ bit_at-shr word b (8 * j))))

-- bit i of the plane's bits at every eighth place, shifted left by b
placed_bit : (plane b i : ℕ) → b < 8 → i < 64
    → bit_at (bit_and plane EIGHTHS * 2 ^ b % 2 ^ 64) i ≡ min (bit_at plane (i - b)) (if i % 8 == b then 1 else 0)
placed_bit plane b i hb hi =
    shifted_and plane EIGHTHS b i _ hi (λ more. refl)
    ∙ ap (min _) (same_in_table (λ c. bit_at (EIGHTHS * 2 ^ c % 2 ^ 64)) (λ c t. if t % 8 == c then 1 else 0) 8 64 b i refl hb hi)

-- the word has the bits at every eighth place of the planes below b, and no others
abbrev pub IsGathered : List ℕ → ℕ → ℕ → Type 0
IsGathered planes word b = (i : ℕ) → i < 64
    → bit_at word i ≡ (if nat_lt (i % 8) b then bit_at (slice_index planes (i % 8)) (i - i % 8) else 0)

-- [k < b] f k + [k = b] f b = [k < b + 1] f k, where [P] is 1 if P holds, and otherwise 0
digit_more : (f : ℕ → ℕ) (k b : ℕ) → f k < 2
    → ((if nat_lt k b then f k else 0) + min (f b) (if k == b then 1 else 0)) % 2 ≡ (if nat_lt k (b + 1) then f k else 0)
digit_more f k b h = grind (arith, nat_tests)

pub gathered_more : (planes : List ℕ) (word b : ℕ) → b < 8 → IsGathered planes word b
    → IsGathered planes (bit_xor word (bit_and (slice_index planes b) EIGHTHS * 2 ^ b % 2 ^ 64)) (b + 1)
gathered_more planes word b hb before = λ i hi.
    bit_at_xor word _ i ∙ ap₂ (λ s t. (s + t) % 2) (before i hi) (placed_bit (slice_index planes b) b i hb hi)
    ∙ digit_more (λ k. bit_at (slice_index planes k) (i - k)) (i % 8) b (bit_at-lt _ _)

pub gathered_byte : (planes : List ℕ) (word : ℕ) → IsGathered planes word 8 → (j : ℕ) → j < 8
    → slice_index (to_le_bytes w64 word) j ≡ plane_byte planes (8 * j)
gathered_byte planes word h j hj =
    byte_of_planes word j (8 * j) planes hj
    (λ b hb.
    let plane : (8 * j + b) % 8 ≡ b = omega arith in
    let place : 8 * j + b - b ≡ 8 * j = omega arith in
    rw (plane, place, lt-ltb b 8 hb) at (h (8 * j + b) (omega arith)))
