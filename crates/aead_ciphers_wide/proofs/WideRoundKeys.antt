-- The round keys of a key, the key with which they begin, and their planes.
use Rattle.std.proofs.Common.{◌≡◌, ℕ, ◌+◌, ◌-◌, ◌*◌, ◌/◌, ◌%◌, ◌≤◌, List, [], drop, get_or-drop, get_or-take, inl, inr, length, length-take-le, take, sym, ◌∙◌, ap, ap₂, arith, slice_index, slice_index_or, ◌<◌, set, subst, below_more, get_or-set_same, get_or-set_other}
use Rattle.std.proofs.lemmas.Bool.{cases_lt}
use Rattle.std.proofs.lemmas.List.FromFn.{fill_by_all}
use Rattle.aead_ciphers_base.specs.Aes.{at, word_at, key_words, cipher, aes}
use Rattle.aead_ciphers_base.specs.Planes.{HoldsRound}
use Rattle.aead_ciphers_wide.specs.WidePlanes.{place_of_eight}
use Rattle.aead_ciphers_wide.specs.WideSchedule.{HoldsPlanes, HoldsWords, IsSchedule, column, key_at, key_of, planes_of, schedule_words}
use Rattle.aead_ciphers_base.proofs.EachLemmas.{get_or-each, length-each}
use Rattle.aead_ciphers_base.proofs.RoundKeys.{key_words_front}

-- byte k of a block, in its column
byte_of_column : (b : List ℕ) (k : ℕ) → slice_index b k ≡ slice_index (column b (k / 4)) (k % 4)
byte_of_column b k =
    let place : k ≡ k % 4 + 4 * (k / 4) = omega arith in
    ap (slice_index b) place ∙ sym (get_or-each 4 (λ r. at b r (k / 4)) (k % 4) 0 (omega arith))

-- the round keys of a key begin with it
key_of_schedule : (key : List ℕ) (round_keys : List (List ℕ)) (nk m n : ℕ) → length key ≡ 4 * nk → nk ≤ 8 → 2 ≤ n
    → HoldsWords round_keys (key_words nk key m) n → key_of round_keys (nk + 6) ≡ key
unfolding key_of
key_of_schedule key round_keys nk m n len hk hn holds =
    let size : length key ≡ 4 * (nk + 6 - 6) = omega arith in
    sym (fill_by_all (λ j. slice_index (key_at round_keys (j / 16)) (j % 16)) key _ 0 size
    (λ j lt.
    let word : 4 * (j / 16) + j % 16 / 4 ≡ j / 4 = omega arith in
    let row : j % 16 % 4 ≡ j % 4 = omega arith in
    let place : 4 * (j / 4) + j % 4 ≡ j = omega arith in
    sym (byte_of_column (key_at round_keys (j / 16)) (j % 16)
    ∙ ap₂ (λ w t. slice_index w t) (holds (j / 16) (j % 16 / 4) (omega arith) (omega arith)) row
    ∙ ap (λ i. slice_index (word_at (key_words nk key m) i) (j % 4)) word
    ∙ ap (λ w. slice_index w (j % 4)) (key_words_front nk key m (j / 4) (omega arith))
    ∙ get_or-each 4 (λ k. slice_index key (4 * (j / 4) + k)) (j % 4) 0 (omega arith)
    ∙ ap (slice_index key) place)))

module _ (key : List ℕ) (round_keys : List (List ℕ)) (nk : ℕ) (len : length key ≡ 4 * nk) (least : 4 ≤ nk) (most : nk ≤ 8)
    (holds : HoldsWords round_keys (key_words nk key (4 * (nk + 7) - nk)) (nk + 7)) where
  pub key_of_is : key_of round_keys (nk + 6) ≡ key
  key_of_is = key_of_schedule key round_keys nk _ _ len most (omega arith) holds

  pub is_schedule : IsSchedule round_keys (nk + 6)
  is_schedule = record {
    enough = omega arith;
    in_range = omega arith;
    expanded = λ j c hj hc.
        let n : nk ≡ nk + 6 - 6 = omega arith in
        let count : 4 * (nk + 7) - nk ≡ 4 * (nk + 6 + 1) - (nk + 6 - 6) = omega arith in
        holds j c (omega arith) hc
        ∙ ap₂ (λ t k. word_at (key_words t k (4 * (nk + 7) - nk)) (4 * j + c)) n (sym key_of_is)
        ∙ ap (λ m. word_at (key_words (nk + 6 - 6) (key_of round_keys (nk + 6)) m) (4 * j + c)) count;
  }

-- the key is what the first two round keys begin with, one after the other
pub key_in_front : (round_keys : List (List ℕ)) (rounds : ℕ) (front : List ℕ) → rounds ≤ 14 → length front ≡ 32
    → take 16 front ≡ key_at round_keys 0 → drop 16 front ≡ key_at round_keys 1 → take (4 * (rounds - 6)) front ≡ key_of round_keys rounds
unfolding key_of
key_in_front round_keys rounds front most long first second =
    let n = 4 * (rounds - 6) in
    fill_by_all (λ j. slice_index (key_at round_keys (j / 16)) (j % 16)) (take n front) n 0 (length-take-le n front (omega (arith, long)))
    (λ j lt. get_or-take n front j 0 lt ∙ elim (cases_lt j 16) [
      | inl early ↦
          let row : 0 ≡ j / 16 = omega arith in
          let place : j ≡ j % 16 = omega arith in
          sym (get_or-take 16 front j 0 early) ∙ ap (λ l. slice_index l j) first
          ∙ ap₂ (λ r k. slice_index (key_at round_keys r) k) row place
      | inr late ↦
          let row : 1 ≡ j / 16 = omega arith in
          let place : j - 16 ≡ j % 16 = omega arith in
          let whole : j ≡ 16 + (j - 16) = omega arith in
          ap (slice_index front) whole ∙ sym (get_or-drop 16 front (j - 16) 0) ∙ ap (λ l. slice_index l (j - 16)) second
          ∙ ap₂ (λ r k. slice_index (key_at round_keys r) k) row place
    ])

-- the cipher under the words of a schedule is AES under its key
pub aes_of_schedule : (round_keys : List (List ℕ)) (rounds : ℕ) (b : List ℕ) → 10 ≤ rounds
    → cipher (schedule_words round_keys rounds) rounds b ≡ aes (key_of round_keys rounds) b
unfolding aes key_of
aes_of_schedule round_keys rounds b h =
    let size = length-each (4 * (rounds - 6)) (λ j. slice_index (key_at round_keys (j / 16)) (j % 16)) in
    let nk : length (key_of round_keys rounds) / 4 ≡ rounds - 6 = omega (arith, size) in
    let count : rounds - 6 + 6 ≡ rounds = omega arith in
    rw (nk, count)

-- the planes of round key j hold it in each of the eight blocks
pub holds_round : (planes round_keys words : List (List ℕ)) (n k j : ℕ) → HoldsPlanes planes round_keys n
    → HoldsWords round_keys words n → k < 8 → j < n → HoldsRound place_of_eight k words j (planes_of (slice_index_or planes j []))
holds_round planes round_keys words n k j is_planes holds hk hj r c hr hc =
    let byte : (8 * (r + 4 * c) + k) / 8 ≡ r + 4 * c = omega arith in
    is_planes j (8 * (r + 4 * c) + k) hj (omega arith) ∙ ap (slice_index (key_at round_keys j)) byte
    ∙ sym (get_or-each 4 (λ r. at (key_at round_keys j) r c) r 0 hr)
    ∙ ap (λ w. slice_index w r) (holds j c hj hc)

-- one more round key written
pub keys_more : (P : ℕ → List ℕ → Type 0) (keys : List (List ℕ)) (j : ℕ) (v : List ℕ) → j < length keys
    → ((i : ℕ) → i < j → P i (slice_index_or keys i [])) → P j v → (i : ℕ) → i < j + 1 → P i (slice_index_or (set keys j v) i [])
keys_more P keys j v fits before here =
    below_more (λ i. P i (slice_index_or (set keys j v) i [])) j
    (λ i less. subst (P i) (sym (get_or-set_other keys j i v [] (λ e. absurd (omega arith)))) (before i less))
    (subst (P j) (sym (get_or-set_same keys j v [] fits)) here)
