-- The key schedule by the columns of round keys.
use Rattle.std.proofs.Common.{◌≡◌, ℕ, zero, suc, ◌+◌, ◌-◌, ◌*◌, ◌/◌, ◌%◌, ◌<◌, ◌≤◌, ◌≢◌, true, false, ◌&&◌, ◌==◌, nat_lt, if◌then◌else◌, inl, inr, List, [], ◌∷◌, ◌++◌, length, map, bit_xor, slice_index, refl, sym, ap, ap₂, ◌∙◌, arith, ne_eqb}
use Rattle.std.proofs.lemmas.Bool.{cases_lt}
use Rattle.std.proofs.lemmas.List.{get_or-map, get_or_past, get_or_append_left, get_or_push, length-map}
use Rattle.aead_ciphers_base.specs.Bytes.{◌⊕◌}
use Rattle.aead_ciphers_base.specs.ByteField.{sbox}
use Rattle.aead_ciphers_base.specs.Aes.{at, state, rot_word, sub_word, word_at, next_word, key_words, power_of_x}
use Rattle.aead_ciphers_base.proofs
use proofs.ByteFieldLaws.{field}
use proofs.EachLemmas.{each-same}
use proofs.KeySchedule.{next_word_turned, next_word_middle, next_word_plain}
use proofs.NumberBits.{all_below, same_below}
use proofs.PlaneBlocks.{at_state, by_four}
use proofs.RoundKeys.{length-key_words, key_words_front}
use proofs.XorLemmas.{xor_assoc, xor_zeros}
use Rattle.aead_ciphers_wide.specs.WideSchedule.{HoldsWords, column, key_at}
use Rattle.aead_ciphers_wide.specs.declared.aes.key_schedule.TheConstants.{ROUND_CONSTANTS}
use Rattle.aead_ciphers_wide.proofs.PermutedBlocks.{length_xor, xor_at}

constants_test : all_below (λ n. slice_index ROUND_CONSTANTS n == power_of_x n) 10 ≡ true
unfolding field power_of_x
constants_test = refl

pub round_constant_is : (n : ℕ) → n < 10 → slice_index ROUND_CONSTANTS n ≡ power_of_x n
round_constant_is n h = same_below (slice_index ROUND_CONSTANTS) power_of_x 10 n constants_test h

-- ---- columns

pub column_xor : (a b : List ℕ) (c : ℕ) → length a ≡ 16 → length b ≡ 16 → c < 4 → column (a ⊕ b) c ≡ column a c ⊕ column b c
column_xor a b c la lb h =
    each-same 4 (λ r. at (a ⊕ b) r c) (λ r. bit_xor (at a r c) (at b r c)) (λ r hr. xor_at a b (r + 4 * c) la lb (omega arith))

column_of_state : (f : ℕ → ℕ → ℕ) (c : ℕ) → c < 4 → column (state f) c ≡ f 0 c ∷ f 1 c ∷ f 2 c ∷ f 3 c ∷ []
column_of_state f c h = each-same 4 (λ r. at (state f) r c) (λ r. f r c) (λ r hr. at_state f r c hr h)

column_sub : (s : List ℕ) (c : ℕ) → length s ≡ 16 → c < 4 → column (map sbox s) c ≡ sub_word (column s c)
unfolding sub_word
column_sub s c size h =
    each-same 4 (λ r. at (map sbox s) r c) (λ r. sbox (at s r c)) (λ r hr. get_or-map sbox s (r + 4 * c) 0 0 (omega (arith, size)))

module _ (block last : List ℕ) (c : ℕ) (h : c < 4) where
  pub column_turned : last ≡ state (λ r c. at block ((r + 1) % 4) 3) → column (map sbox last) c ≡ sub_word (rot_word (column block 3))
  unfolding rot_word
  column_turned e =
      column_sub last c (ap length e) h
      ∙ ap sub_word (ap (λ l. column l c) e ∙ column_of_state (λ r c. at block ((r + 1) % 4) 3) c h)

  pub column_last : last ≡ state (λ r c. at block r 3) → column (map sbox last) c ≡ sub_word (column block 3)
  column_last e =
      column_sub last c (ap length e) h
      ∙ ap sub_word (ap (λ l. column l c) e ∙ column_of_state (λ r c. at block r 3) c h)

module _ (b v : List ℕ) (size : length b ≡ 16) where
  past : slice_index b 128 ≡ 0
  past = get_or_past b 128 0 (omega (arith, size))

  pub one_on_is : v ≡ map (slice_index b) (128 ∷ 128 ∷ 128 ∷ 128 ∷ 0 ∷ 1 ∷ 2 ∷ 3 ∷ 4 ∷ 5 ∷ 6 ∷ 7 ∷ 8 ∷ 9 ∷ 10 ∷ 11 ∷ [])
      → v ≡ state (λ r c. if c == 0 then 0 else at b r (c - 1))
  one_on_is e =
      e ∙ ap (λ z. z ∷ z ∷ z ∷ z ∷ map (slice_index b) (0 ∷ 1 ∷ 2 ∷ 3 ∷ 4 ∷ 5 ∷ 6 ∷ 7 ∷ 8 ∷ 9 ∷ 10 ∷ 11 ∷ [])) past

  pub two_on_is : v ≡ map (slice_index b) (128 ∷ 128 ∷ 128 ∷ 128 ∷ 128 ∷ 128 ∷ 128 ∷ 128 ∷ 0 ∷ 1 ∷ 2 ∷ 3 ∷ 4 ∷ 5 ∷ 6 ∷ 7 ∷ [])
      → v ≡ state (λ r c. if nat_lt c 2 then 0 else at b r (c - 2))
  two_on_is e = e ∙ ap (λ z. z ∷ z ∷ z ∷ z ∷ z ∷ z ∷ z ∷ z ∷ map (slice_index b) (0 ∷ 1 ∷ 2 ∷ 3 ∷ 4 ∷ 5 ∷ 6 ∷ 7 ∷ [])) past

-- the transformed word in each column
module _ (block word constant last : List ℕ) (p c : ℕ) (h : c < 4) where
  pub turned_is : word ≡ state (λ r c. at block ((r + 1) % 4) 3) → constant ≡ state (λ r c. if r == 0 then p else 0)
      → last ≡ map sbox word ⊕ constant → column last c ≡ sub_word (rot_word (column block 3)) ⊕ (p ∷ 0 ∷ 0 ∷ 0 ∷ [])
  turned_is e k is =
      ap (λ l. column l c) is ∙ column_xor (map sbox word) constant c (length-map word sbox ∙ ap length e) (ap length k) h
      ∙ ap₂ ◌⊕◌ (column_turned block word c h e) (ap (λ l. column l c) k ∙ column_of_state (λ r c. if r == 0 then p else 0) c h)

-- ---- each column added to the ones after it

by_three : (P : ℕ → Type 0) → P 0 → P 1 → P 2 → (k : ℕ) → k < 3 → P k
by_three P a b c zero h = a
by_three P a b c (suc zero) h = b
by_three P a b c (suc (suc zero)) h = c
by_three P a b c _ h = absurd (omega arith)

module _ (back one two word : List ℕ) (size : length back ≡ 16) (size_word : length word ≡ 16)
    (one_is : one ≡ state (λ r c. if c == 0 then 0 else at back r (c - 1)))
    (two_is : two ≡ state (λ r c. if nat_lt c 2 then 0 else at (back ⊕ one) r (c - 2)))
    (same : (c : ℕ) → c < 4 → column word c ≡ column word 0) where
  abbrev x : ℕ → List ℕ
  x = column back

  abbrev a : List ℕ
  a = back ⊕ one

  abbrev b : List ℕ
  b = a ⊕ two

  size_one : length one ≡ 16
  size_one = ap length one_is

  size_two : length two ≡ 16
  size_two = ap length two_is

  size_a : length a ≡ 16
  size_a = length_xor back one size size_one

  a_at : (c : ℕ) → c < 4 → column a c ≡ x c ⊕ column one c
  a_at c h = column_xor back one c size size_one h

  b_at : (c : ℕ) → c < 4 → column b c ≡ column a c ⊕ column two c
  b_at c h = column_xor a two c size_a size_two h

  a_0 : column a 0 ≡ x 0
  a_0 = a_at 0 (omega arith) ∙ ap (λ o. x 0 ⊕ column o 0) one_is ∙ xor_zeros (x 0) 4 refl

  a_1 : column a 1 ≡ x 1 ⊕ x 0
  a_1 = a_at 1 (omega arith) ∙ ap (λ o. x 1 ⊕ column o 1) one_is

  a_2 : column a 2 ≡ x 2 ⊕ x 1
  a_2 = a_at 2 (omega arith) ∙ ap (λ o. x 2 ⊕ column o 2) one_is

  a_3 : column a 3 ≡ x 3 ⊕ x 2
  a_3 = a_at 3 (omega arith) ∙ ap (λ o. x 3 ⊕ column o 3) one_is

  b_0 : column b 0 ≡ x 0
  b_0 = b_at 0 (omega arith) ∙ ap (λ t. column a 0 ⊕ column t 0) two_is ∙ xor_zeros (column a 0) 4 refl ∙ a_0

  b_1 : column b 1 ≡ x 1 ⊕ x 0
  b_1 = b_at 1 (omega arith) ∙ ap (λ t. column a 1 ⊕ column t 1) two_is ∙ xor_zeros (column a 1) 4 refl ∙ a_1

  b_2 : column b 2 ≡ x 2 ⊕ (x 1 ⊕ x 0)
  b_2 = b_at 2 (omega arith) ∙ ap (λ t. column a 2 ⊕ column t 2) two_is ∙ ap₂ ◌⊕◌ a_2 a_0 ∙ xor_assoc (x 2) (x 1) (x 0)

  b_3 : column b 3 ≡ x 3 ⊕ (x 2 ⊕ (x 1 ⊕ x 0))
  b_3 = b_at 3 (omega arith) ∙ ap (λ t. column a 3 ⊕ column t 3) two_is ∙ ap₂ ◌⊕◌ a_3 a_1 ∙ xor_assoc (x 3) (x 2) (x 1 ⊕ x 0)

  b_step : (c : ℕ) → c < 3 → column b (c + 1) ≡ x (c + 1) ⊕ column b c
  b_step =
      by_three (λ c. column b (c + 1) ≡ x (c + 1) ⊕ column b c)
      (b_1 ∙ ap (λ u. x 1 ⊕ u) (sym b_0)) (b_2 ∙ ap (λ u. x 2 ⊕ u) (sym b_1)) (b_3 ∙ ap (λ u. x 3 ⊕ u) (sym b_2))

  v_is : (c : ℕ) → c < 4 → column (b ⊕ word) c ≡ column b c ⊕ column word 0
  v_is c h = column_xor b word c (length_xor a two size_a size_two) size_word h ∙ ap (λ u. column b c ⊕ u) (same c h)

  pub next_first : column (b ⊕ word) 0 ≡ x 0 ⊕ column word 0
  next_first = v_is 0 (omega arith) ∙ ap (λ u. u ⊕ column word 0) b_0

  pub next_others : (c : ℕ) → c < 3 → column (b ⊕ word) (c + 1) ≡ x (c + 1) ⊕ column (b ⊕ word) c
  next_others c h =
      v_is (c + 1) (omega arith) ∙ ap (λ u. u ⊕ column word 0) (b_step c h) ∙ xor_assoc (x (c + 1)) (column b c) (column word 0)
      ∙ ap (λ u. x (c + 1) ⊕ u) (sym (v_is c (omega arith)))

-- ---- each word of the key schedule, from the whole of it

next_word_append : (nk : ℕ) (w : List (List ℕ)) (v : List ℕ) (i : ℕ) → 0 < nk → nk ≤ i → i ≤ length w
    → next_word nk (w ++ v ∷ []) i ≡ next_word nk w i
unfolding next_word
next_word_append nk w v i hk hi size =
    let last = get_or_append_left w (v ∷ []) [] (i - 1) (omega arith) in
    let back = get_or_append_left w (v ∷ []) [] (i - nk) (omega arith) in
    rw (last, back) refl

word_is : (nk : ℕ) (key : List ℕ) (n i : ℕ) → 0 < nk → nk ≤ i → i < nk + n
    → word_at (key_words nk key n) i ≡ next_word nk (key_words nk key n) i
unfolding key_words
word_is nk key zero i hk hi lt = absurd (omega arith)
word_is nk key (suc n) i hk hi lt =
    let w = key_words nk key n in
    let v = next_word nk w (nk + n) in
    let size = length-key_words nk key n in
    elim (cases_lt i (nk + n)) [
      | inl less ↦ get_or_append_left w (v ∷ []) [] i (omega (arith, size)) ∙ word_is nk key n i hk hi less
          ∙ sym (next_word_append nk w v i hk hi (omega (arith, size)))
      | inr more ↦
          let e : i ≡ nk + n = omega arith in
          get_or_push w v [] i (size ∙ sym e) ∙ ap (next_word nk w) (sym e) ∙ sym (next_word_append nk w v i hk hi (omega (arith, size)))
    ]

-- ---- the places of words, for a key of m blocks

turned_place : (m n : ℕ) → 0 < m → m ≤ 2 → n % m ≡ 0 → (4 * n + 0) % (4 * m) ≡ 0
turned_place (suc zero) n least most h = omega arith
turned_place (suc (suc zero)) n least most h = omega arith
turned_place _ n least most h = absurd (omega arith)

turned_count : (m n : ℕ) → 0 < m → m ≤ 2 → (4 * n + 0) / (4 * m) - 1 ≡ n / m - 1
turned_count (suc zero) n least most = omega arith
turned_count (suc (suc zero)) n least most = omega arith
turned_count _ n least most = absurd (omega arith)

not_turned : (m n c : ℕ) → 0 < m → m ≤ 2 → 0 < c → c < 4 → (4 * n + c) % (4 * m) ≡ 0 → ⊥
not_turned (suc zero) n c least most from below e = omega arith
not_turned (suc (suc zero)) n c least most from below e = omega arith
not_turned _ n c least most from below e = omega arith

not_middle : (m n c : ℕ) → 0 < m → m ≤ 2 → 0 < c → c < 4 → (nat_lt 6 (4 * m) && ((4 * n + c) % (4 * m) == 4)) ≡ false
not_middle (suc zero) n c least most from below = refl
not_middle (suc (suc zero)) n c least most from below = ne_eqb ((4 * n + c) % 8) 4 (λ e. omega arith)
not_middle _ n c least most from below = absurd (omega arith)

middle_size : (m n : ℕ) → 0 < m → m ≤ 2 → n % m ≢ 0 → 6 < 4 * m
middle_size (suc zero) n least most h = absurd (h (omega arith))
middle_size (suc (suc zero)) n least most h = omega arith
middle_size _ n least most h = absurd (omega arith)

middle_place : (m n : ℕ) → 0 < m → m ≤ 2 → n % m ≢ 0 → (4 * n + 0) % (4 * m) ≡ 4
middle_place (suc zero) n least most h = absurd (h (omega arith))
middle_place (suc (suc zero)) n least most h = omega arith
middle_place _ n least most h = absurd (omega arith)

middle_not : (m n : ℕ) → 0 < m → m ≤ 2 → n % m ≢ 0 → (4 * n + 0) % (4 * m) ≡ 0 → ⊥
middle_not m n least most h e = let four = middle_place m n least most h in omega arith

-- ---- one more round key

-- the columns of the transformed word before round key n
pub record IsTransformed (last word : List ℕ) (m n : ℕ) : Type 0 where
  pub turned : n % m ≡ 0 → (c : ℕ) → c < 4 → column word c ≡ sub_word (rot_word (column last 3)) ⊕ (power_of_x (n / m - 1) ∷ 0 ∷ 0 ∷ 0 ∷ [])
  pub middle : n % m ≢ 0 → (c : ℕ) → c < 4 → column word c ≡ sub_word (column last 3)

pub same_columns : (last word : List ℕ) (m n : ℕ) → IsTransformed last word m n → (c : ℕ) → c < 4 → column word c ≡ column word 0
same_columns last word m n is c h = elim (cases_lt (n % m) 1) [
  | inl none ↦ let e : n % m ≡ 0 = omega arith in is.turned e c h ∙ sym (is.turned e 0 (omega arith))
  | inr some ↦
      let ne : n % m ≢ 0 = λ e. omega arith in
      is.middle ne c h ∙ sym (is.middle ne 0 (omega arith))
]

module _ (m : ℕ) (key : List ℕ) (keys : List (List ℕ)) (n : ℕ) (least : 0 < m) (most : m ≤ 2) (from : m ≤ n) (below : n < 4 * m + 7)
    (held : HoldsWords keys (key_words (4 * m) key (4 * (4 * m + 7) - 4 * m)) n) where
  abbrev words : List (List ℕ)
  words = key_words (4 * m) key (4 * (4 * m + 7) - 4 * m)

  abbrev back : List ℕ
  back = key_at keys (n - m)

  abbrev last : List ℕ
  last = key_at keys (n - 1)

  here : (c : ℕ) → c < 4 → word_at words (4 * n + c) ≡ next_word (4 * m) words (4 * n + c)
  here c h = word_is (4 * m) key _ (4 * n + c) (omega arith) (omega arith) (omega arith)

  back_is : (c : ℕ) → c < 4 → column back c ≡ word_at words (4 * n + c - 4 * m)
  back_is c h =
      let place : 4 * (n - m) + c ≡ 4 * n + c - 4 * m = omega arith in
      held (n - m) c (omega arith) h ∙ ap (word_at words) place

  last_is : column last 3 ≡ word_at words (4 * n + 0 - 1)
  last_is = let place : 4 * (n - 1) + 3 ≡ 4 * n + 0 - 1 = omega arith in held (n - 1) 3 (omega arith) (omega arith) ∙ ap (word_at words) place

  first_word : (word : List ℕ) → IsTransformed last word m n → column back 0 ⊕ column word 0 ≡ word_at words (4 * n + 0)
  first_word word is = elim (cases_lt (n % m) 1) [
    | inl none ↦
        let e : n % m ≡ 0 = omega arith in
        ap₂ ◌⊕◌ (back_is 0 (omega arith))
        (is.turned e 0 (omega arith)
        ∙ ap₂ (λ u i. sub_word (rot_word u) ⊕ (power_of_x i ∷ 0 ∷ 0 ∷ 0 ∷ [])) last_is (sym (turned_count m n least most)))
        ∙ sym (next_word_turned (4 * m) words (4 * n + 0) (turned_place m n least most e)) ∙ sym (here 0 (omega arith))
    | inr some ↦
        let ne : n % m ≢ 0 = λ e. omega arith in
        ap₂ ◌⊕◌ (back_is 0 (omega arith)) (is.middle ne 0 (omega arith) ∙ ap sub_word last_is)
        ∙ sym (next_word_middle (4 * m) words (4 * n + 0) (middle_not m n least most ne) (middle_size m n least most ne) (middle_place m n least most ne))
        ∙ sym (here 0 (omega arith))
  ]

  module _ (v word : List ℕ) (is : IsTransformed last word m n) (first : column v 0 ≡ column back 0 ⊕ column word 0)
      (others : (c : ℕ) → c < 3 → column v (c + 1) ≡ column back (c + 1) ⊕ column v c) where
    step : (c : ℕ) → c < 3 → column v c ≡ word_at words (4 * n + c) → column v (c + 1) ≡ word_at words (4 * n + (c + 1))
    step c h before =
        let place : 4 * n + c ≡ 4 * n + (c + 1) - 1 = omega arith in
        others c h ∙ ap₂ ◌⊕◌ (back_is (c + 1) (omega arith)) (before ∙ ap (word_at words) place)
        ∙ sym (next_word_plain (4 * m) words (4 * n + (c + 1)) (not_turned m n (c + 1) least most (omega arith) (omega arith))
        (not_middle m n (c + 1) least most (omega arith) (omega arith)))
        ∙ sym (here (c + 1) (omega arith))

    -- the columns of the next round key are the next four words
    pub next_columns : (c : ℕ) → c < 4 → column v c ≡ word_at words (4 * n + c)
    next_columns =
        let c0 = first ∙ first_word word is in
        let c1 = step 0 (omega arith) c0 in
        let c2 = step 1 (omega arith) c1 in
        by_four (λ c. column v c ≡ word_at words (4 * n + c)) c0 c1 c2 (step 2 (omega arith) c2)

-- ---- the ends of the loop

pub first_columns : (m : ℕ) (key : List ℕ) (n : ℕ) (keys : List (List ℕ)) → ((j k : ℕ) → j < m → k < 16
    → slice_index (key_at keys j) k ≡ slice_index key (16 * j + k)) → HoldsWords keys (key_words (4 * m) key n) m
first_columns m key n keys copied j c hj hc =
    each-same 4 (λ r. at (key_at keys j) r c) (λ r. slice_index key (4 * (4 * j + c) + r))
    (λ r hr.
    let place : 16 * j + (r + 4 * c) ≡ 4 * (4 * j + c) + r = omega arith in
    copied j (r + 4 * c) hj (omega arith) ∙ ap (slice_index key) place)
    ∙ sym (key_words_front (4 * m) key n (4 * j + c) (omega arith))
