-- The rounds of a block under round keys.
use Rattle.std.proofs.Common.{◌≡◌, ℕ, ◌+◌, ◌-◌, ◌*◌, ◌<◌, List, bit_xor, sym, ap, ◌∙◌, arith, slice_index}
use Rattle.aead_ciphers_base.specs.Aes.{add_round_key, aes, at, cipher, mix_columns, shift_rows, state, sub_bytes, rounds, word_at}
use Rattle.aead_ciphers_base.proofs.EachLemmas.{get_or-each}
use Rattle.aead_ciphers_base.proofs.PlaneBlocks.{state_same}
use Rattle.aead_ciphers_base.proofs.RoundKeys.{rounds_more}
use Rattle.aead_ciphers_wide.specs.WideSchedule.{IsSchedule, key_at, key_of, schedule_words}
use Rattle.aead_ciphers_wide.proofs.WideRoundKeys.{aes_of_schedule}

module _ (round_keys : List (List ℕ)) (nr : ℕ) (is : IsSchedule round_keys nr) where
  abbrev words : List (List ℕ)
  words = schedule_words round_keys nr

  abbrev with_key : List ℕ → ℕ → List ℕ
  with_key s n = state (λ r c. bit_xor (at s r c) (at (key_at round_keys n) r c))

  added : (s : List ℕ) (n : ℕ) → n < nr + 1 → with_key s n ≡ add_round_key words n s
  unfolding add_round_key
  added s n h =
      state_same (λ r c. bit_xor (at s r c) (at (key_at round_keys n) r c)) (λ r c. bit_xor (at s r c) (slice_index (word_at words (4 * n + c)) r))
      (λ r c hr hc.
      ap (bit_xor (at s r c))
      (sym (get_or-each 4 (λ r. at (key_at round_keys n) r c) r 0 hr) ∙ ap (λ w. slice_index w r) (is.expanded n c h hc)))

  pub first_round : (b : List ℕ) → with_key b 0 ≡ rounds words b (1 - 1)
  unfolding rounds
  first_round b = added b 0 (omega arith)

  pub next_round : (b s t : List ℕ) (n : ℕ) → 0 < n → n < nr → s ≡ rounds words b (n - 1)
      → t ≡ with_key (mix_columns (shift_rows (sub_bytes s))) n → t ≡ rounds words b (n + 1 - 1)
  next_round b s t n least most before here =
      here ∙ added (mix_columns (shift_rows (sub_bytes s))) n (omega arith)
      ∙ ap (λ x. add_round_key words n (mix_columns (shift_rows (sub_bytes x)))) before
      ∙ sym (rounds_more words b n least)

  pub end_round : (b s t key : List ℕ) (n : ℕ) → n ≡ nr → s ≡ rounds words b (n - 1)
      → t ≡ with_key (shift_rows (sub_bytes s)) nr → key_of round_keys nr ≡ key → t ≡ aes key b
  unfolding cipher
  end_round b s t key n last before here of_key =
      here ∙ added (shift_rows (sub_bytes s)) nr (omega arith)
      ∙ ap (λ x. add_round_key words nr (shift_rows (sub_bytes x))) (before ∙ ap (λ m. rounds words b (m - 1)) last)
      ∙ aes_of_schedule round_keys nr b is.enough
      ∙ ap (λ k. aes k b) of_key
