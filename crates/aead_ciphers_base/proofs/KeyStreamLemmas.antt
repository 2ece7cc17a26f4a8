-- ChaCha20's key stream, a block at a time.
use Rattle.std.proofs
use proofs.Common.{slice_index, ◌≡◌, ℕ, ◌+◌, ◌-◌, ◌*◌, ◌/◌, ◌%◌, ◌<◌, ◌≤◌, List, ◌++◌, length, take, drop, refl, ap, ap₂, sym, ◌∙◌, arith, min, get_or, length-append, length-drop, length-take-le}
use proofs.lemmas.List.{take_min}
use proofs.lemmas.List.FromFn.{fill_by_all}
use Rattle.std.specs.Fn.{iterate}
use Rattle.std.specs.Int.{w32, to_le_bytes}
use Rattle.std.specs.Simd.Lanes.{zip2}
use Rattle.aead_ciphers_base.specs
use specs.Bytes.{each_below, xored, ◌⊕◌}
use specs.ChaCha20.{add32, double_round, le_bytes, initial_state, state_block, chacha20_block, stream_byte, chacha20_encrypted}
use Rattle.aead_ciphers_base.proofs.LittleEndian.{length-le_bytes, get_or-le_bytes}
use Rattle.aead_ciphers_base.proofs.StreamLemmas.{advance, length-xored, stream_front, xored-is, xored-xored}

module _ (key : List ℕ) (counter : ℕ) (nonce : List ℕ) where
  -- the key stream after j whole blocks
  stream_byte-later : (j i : ℕ) → stream_byte key counter nonce (64 * j + i) ≡ stream_byte key (counter + j) nonce i
  unfolding stream_byte
  stream_byte-later j i =
      let row : counter + (64 * j + i) / 64 ≡ counter + j + i / 64 = omega arith in
      let column : (64 * j + i) % 64 ≡ i % 64 = omega arith in
      rw (row, column) refl

  -- n blocks, whose words stand in a row
  pub blocks-stream : (n : ℕ) (words : List ℕ) → length words ≡ 16 * n
      → ((j k : ℕ) → j < n → k < 16 → slice_index words (16 * j + k) ≡
      let first = initial_state key (counter + j) nonce in slice_index (zip2 add32 (iterate double_round 10 first) first) k)
      → le_bytes words ≡ each_below (64 * n) (stream_byte key counter nonce)
  unfolding stream_byte chacha20_block state_block
  blocks-stream n words size same =
      fill_by_all _ (le_bytes words) _ 0 (omega (arith, length-le_bytes words)) (λ i h.
      let k = i % 64 / 4 in
      let r = i % 4 in
      let place : 4 * (16 * (i / 64) + k) + r ≡ i = omega arith in
      let inside : 4 * k + r ≡ i % 64 = omega arith in
      let first = initial_state key (counter + i / 64) nonce in
      let block = zip2 add32 (iterate double_round 10 first) first in
      sym (ap (λ i. get_or (le_bytes words) i 0) place)
      ∙ get_or-le_bytes words _ r (omega arith)
      ∙ ap (λ w. get_or (to_le_bytes w32 w) r 0) (same (i / 64) k (omega arith) (omega arith))
      ∙ sym (get_or-le_bytes block k r (omega arith))
      ∙ ap (λ i. get_or (le_bytes block) i 0) inside)

  -- the first n bytes of one block
  pub block-stream : (block : List ℕ) (n : ℕ) → block ≡ chacha20_block key counter nonce → length block ≡ 64
      → n ≤ 64 → take n block ≡ each_below n (stream_byte key counter nonce)
  unfolding stream_byte
  block-stream block n e size le =
      stream_front _ block n (omega arith) (λ k h.
      let row : counter + k / 64 ≡ counter = omega arith in
      let column : k % 64 ≡ k = omega arith in
      rw (row, column, e) refl)

  -- after j blocks of a slice, n more bytes are written: m blocks, or what is left
  pub written_more : (start j m n : ℕ) (old was stream : List ℕ)
      → was ≡ chacha20_encrypted key counter nonce (take (64 * j) (drop start old)) ++ drop (length (take (64 * j) (drop start old))) old
      → take n stream ≡ each_below n (stream_byte key (counter + j) nonce)
      → start + 64 * j ≤ length old → n ≡ min (64 * m) (length old - start - 64 * j)
      → take (64 * j) was ++ (take n (drop (start + 64 * j) was) ⊕ stream) ++ drop (64 * j + n) was
      ≡ chacha20_encrypted key counter nonce (take (64 * (j + m)) (drop start old)) ++ drop (length (take (64 * (j + m)) (drop start old))) old
  unfolding chacha20_encrypted
  written_more start j m n old was stream held e within short =
      let at : ℕ = 64 * j in
      let f = stream_byte key counter nonce in
      let g = stream_byte key (counter + j) nonce in
      let input : List ℕ = drop start old in
      let piece : List ℕ = take n (drop (start + at) was) in
      let li : length input ≡ length old - start = length-drop start old in
      let ld : length (take at input) ≡ at = length-take-le at input (omega arith) in
      let held' = held ∙ ap (λ k. xored f (take at input) ++ drop k old) ld in
      let lw : length was ≡ length old = ap length held' ∙ simp (length-append, length-xored, length-drop) (omega arith) in
      let lp : length piece ≡ n = length-take-le n _ (omega (arith, length-drop (start + at) was)) in
      let cut : at + n ≡ min (64 * (j + m)) (length input) = omega arith in
      let all : take (at + n) input ≡ take (64 * (j + m)) input = ap (λ k. take k input) cut ∙ take_min _ input in
      let la : at + n ≡ length (take (64 * (j + m)) input) = sym (length-take-le (at + n) input (omega arith)) ∙ ap length all in
      ap (λ u. take at was ++ u ++ drop (at + n) was) (xored-is g piece stream (rw lp e))
      ∙ advance f g at n start old was (stream_byte-later j) (omega arith) held'
      ∙ ap₂ (λ (u : List ℕ) (k : ℕ). xored f u ++ drop k old) all la

  -- encrypting twice gives the text back
  pub chacha20_encrypted-chacha20_encrypted : (m : List ℕ)
      → chacha20_encrypted key counter nonce (chacha20_encrypted key counter nonce m) ≡ m
  unfolding chacha20_encrypted
  chacha20_encrypted-chacha20_encrypted m = xored-xored _ m

pub ruleset encrypted_twice = (chacha20_encrypted-chacha20_encrypted)
