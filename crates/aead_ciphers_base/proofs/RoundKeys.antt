-- The round keys of a key, the key with which they begin, and one more round.
use Rattle.std.proofs.Common.{◌≡◌, ℕ, zero, suc, ◌+◌, ◌-◌, ◌*◌, ◌/◌, ◌%◌, ◌<◌, ◌≤◌, List, [], ◌∷◌, length, take, sym, ◌∙◌, ap, ap₂, arith, slice_index, slice_index_or, length-append}
use Rattle.std.proofs.lemmas
use lemmas.List.{get_or_append_left}
use lemmas.List.FromFn.{fill_by_all}
use Rattle.aead_ciphers_base.specs
use specs.Aes.{word_at, key_words, cipher, aes, next_word, add_round_key, mix_columns, shift_rows, sub_bytes, rounds}
use specs.Planes.{plane_byte, place_of_four, HoldsRound}
use specs.KeySchedule.{HoldsWords, key_of, IsSchedule}
use Rattle.aead_ciphers_base.proofs
use proofs.EachLemmas.{get_or-each, length-each}
use proofs.KeySchedule.{key_word}

-- ---- one more round

pub rounds_more : (w : List (List ℕ)) (b : List ℕ) (r : ℕ) → 0 < r
    → rounds w b (r + 1 - 1) ≡ add_round_key w r (mix_columns (shift_rows (sub_bytes (rounds w b (r - 1)))))
unfolding rounds
rounds_more w b (suc n) h =
    let same : suc n + 1 - 1 ≡ suc n = omega arith in
    let before : suc n - 1 ≡ n = omega arith in
    rw (same, before)
rounds_more w b _ h = absurd (omega arith)

pub length-key_words : (nk : ℕ) (key : List ℕ) (n : ℕ) → length (key_words nk key n) ≡ nk + n
unfolding key_words
length-key_words nk key zero = length-each nk _ ∙ omega arith
length-key_words nk key (suc n) =
    let before = length-key_words nk key n in
    let both = length-append (key_words nk key n) (next_word nk (key_words nk key n) (nk + n) ∷ []) in
    omega (arith, before, both)

pub key_words_front : (nk : ℕ) (key : List ℕ) (n i : ℕ) → i < nk → word_at (key_words nk key n) i ≡ key_word key i
unfolding key_words
key_words_front nk key zero i h = get_or-each nk _ i [] h
key_words_front nk key (suc n) i h =
    get_or_append_left _ _ [] i (omega (arith, length-key_words nk key n)) ∙ key_words_front nk key n i h

-- the round keys of a key begin with it
key_of_schedule : (key : List ℕ) (round_keys : List (List ℕ)) (nk m n : ℕ) → length key ≡ 4 * nk → nk ≤ 8 → 2 ≤ n
    → HoldsWords round_keys (key_words nk key m) n → key_of round_keys (nk + 6) ≡ key
unfolding key_of
key_of_schedule key round_keys nk m n len hk hn holds =
    let size : length key ≡ 4 * (nk + 6 - 6) = omega arith in
    sym (fill_by_all (λ j. plane_byte _ _) key _ 0 size
    (λ j lt.
    let row : 4 * (j / 16) + j % 16 % 16 / 4 ≡ j / 4 = omega arith in
    let column : j % 16 % 4 ≡ j % 4 = omega arith in
    let place : 4 * (j / 4) + j % 4 ≡ j = omega arith in
    sym (holds (j / 16) (j % 16) (omega arith) (omega arith)
    ∙ ap₂ (λ i t. slice_index (word_at (key_words nk key m) i) t) row column
    ∙ ap (λ w. slice_index w (j % 4)) (key_words_front nk key m (j / 4) (omega arith))
    ∙ get_or-each 4 (λ k. slice_index key (4 * (j / 4) + k)) (j % 4) 0 (omega arith)
    ∙ ap (slice_index key) place)))

module _ (key : List ℕ) (w round_keys : List (List ℕ)) (nk : ℕ) (len : length key ≡ 4 * nk) (least : 4 ≤ nk) (most : nk ≤ 8)
    (whole : take (4 * (nk + 7)) w ≡ key_words nk key (4 * (nk + 7) - nk))
    (holds : HoldsWords round_keys (take (4 * (nk + 6 + 1)) w) (length (take (4 * (nk + 6 + 1)) w) / 4)) where
  abbrev words : List (List ℕ)
  words = key_words nk key (4 * (nk + 6 + 1) - nk)

  words_is : take (4 * (nk + 6 + 1)) w ≡ words
  words_is = let last : 4 * (nk + 6 + 1) ≡ 4 * (nk + 7) = omega arith in rw last whole

  holds_key : HoldsWords round_keys words (nk + 6 + 1)
  holds_key j p hj hp =
      let size = ap length words_is ∙ length-key_words nk key _ in
      holds j p (omega arith) hp ∙ ap (λ t. slice_index (word_at t (4 * j + p % 16 / 4)) (p % 4)) words_is

  pub key_of_is : key_of round_keys (nk + 6) ≡ key
  key_of_is = key_of_schedule key round_keys nk _ _ len most (omega arith) holds_key

  pub is_schedule : IsSchedule round_keys (nk + 6)
  is_schedule = record {
    enough = omega arith;
    in_range = omega arith;
    expanded = λ j p hj hp.
        let n : nk ≡ nk + 6 - 6 = omega arith in
        holds_key j p (omega arith) hp
        ∙ ap₂ (λ t k. slice_index (word_at (key_words t k (4 * (nk + 6 + 1) - t)) (4 * j + p % 16 / 4)) (p % 4)) n (sym key_of_is);
  }

-- the words that the round keys of a schedule hold
abbrev pub schedule_words : List (List ℕ) → ℕ → List (List ℕ)
schedule_words round_keys rounds = key_words (rounds - 6) (key_of round_keys rounds) (4 * (rounds + 1) - (rounds - 6))

-- a round key of words, in a block of the planes of a pass
pub holds_round : (round_keys w : List (List ℕ)) (n k j : ℕ) → HoldsWords round_keys w n → k < 4 → j < n
    → HoldsRound place_of_four k w j (slice_index_or round_keys j [])
holds_round round_keys w n k j holds hk hj r c hr hc =
    let column : 4 * j + place_of_four k (r + 4 * c) % 16 / 4 ≡ 4 * j + c = omega arith in
    let row : place_of_four k (r + 4 * c) % 4 ≡ r = omega arith in
    holds j (place_of_four k (r + 4 * c)) hj (omega arith) ∙ ap₂ (λ i t. slice_index (word_at w i) t) column row

-- the cipher under the words of a schedule is AES under its key
pub aes_of_schedule : (round_keys : List (List ℕ)) (rounds : ℕ) (b : List ℕ) → 10 ≤ rounds
    → cipher (schedule_words round_keys rounds) rounds b ≡ aes (key_of round_keys rounds) b
unfolding aes key_of
aes_of_schedule round_keys rounds b h =
    let size = length-each (4 * (rounds - 6)) (λ j. plane_byte (slice_index_or round_keys (j / 16) []) (j % 16)) in
    let nk : length (key_of round_keys rounds) / 4 ≡ rounds - 6 = omega (arith, size) in
    let count : rounds - 6 + 6 ≡ rounds = omega arith in
    rw (nk, count)
