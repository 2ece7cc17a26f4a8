-- Blocks byte by byte, and what the steps on planes do to each of them.
use Rattle.std.proofs.Common.{◌≡◌, ℕ, zero, suc, ◌+◌, ◌-◌, ◌*◌, ◌/◌, ◌%◌, ◌<◌, List, length, refl, sym, ap, ap₂, ◌∙◌, arith, bit_xor, slice_index}
use Rattle.std.proofs.lemmas.List.FromFn.{fill_by_all}
use Rattle.aead_ciphers_base.specs
use specs.ByteField.{sbox, mul8}
use specs.Aes.{at, state, sub_bytes, shift_rows, mixed, mix_columns, add_round_key, word_at, rounds, cipher}
use specs.Planes.{plane_byte, block_at, below, shifted_from, HoldsRound, MovesBytes}
use Rattle.aead_ciphers_base.proofs.EachLemmas.{get_or-each}

-- a block is a state if its byte k stands in row k % 4 and column k / 4
pub state_is : (f : ℕ → ℕ → ℕ) (s : List ℕ) → length s ≡ 16 → ((k : ℕ) → k < 16 → slice_index s k ≡ f (k % 4) (k / 4)) → s ≡ state f
state_is f s e h = fill_by_all (λ k. f _ _) s 16 0 e h

pub byte_of_state : (f : ℕ → ℕ → ℕ) (k : ℕ) → k < 16 → slice_index (state f) k ≡ f (k % 4) (k / 4)
byte_of_state f k h = get_or-each 16 (λ j. f (j % 4) (j / 4)) k 0 h

pub state_same : (f g : ℕ → ℕ → ℕ) → ((r c : ℕ) → r < 4 → c < 4 → f r c ≡ g r c) → state f ≡ state g
state_same f g h = state_is g _ refl (λ k lt. byte_of_state f k lt ∙ h _ _ (omega arith) (omega arith))

pub at_state : (f : ℕ → ℕ → ℕ) (r c : ℕ) → r < 4 → c < 4 → at (state f) r c ≡ f r c
at_state f r c hr hc =
    let row : (r + 4 * c) % 4 ≡ r = omega arith in
    let column : (r + 4 * c) / 4 ≡ c = omega arith in
    byte_of_state f _ (omega arith) ∙ ap₂ f row column

module _ (place : ℕ → ℕ → ℕ) (n : ℕ) (old new : List ℕ) (k : ℕ) (hk : k < n) where
  at_old : (r c : ℕ) → r < 4 → c < 4 → at (block_at place old k) r c ≡ plane_byte old (place k (r + 4 * c))
  unfolding block_at
  at_old r c hr hc = at_state (λ r c. plane_byte old (place k (r + 4 * c))) r c hr hc

  pub sub_block : (width : ℕ) → ((k j : ℕ) → k < n → j < 16 → place k j < width)
      → ((p : ℕ) → p < width → plane_byte new p ≡ sbox (plane_byte old p))
      → block_at place new k ≡ sub_bytes (block_at place old k)
  unfolding sub_bytes block_at
  sub_block width within h =
      state_same (λ r c. plane_byte new _) (λ r c. sbox _)
      (λ r c hr hc. h _ (within k (r + 4 * c) hk (omega arith)) ∙ ap sbox (sym (at_old r c hr hc)))

  pub shift_block : MovesBytes place n shifted_from old new → block_at place new k ≡ shift_rows (block_at place old k)
  unfolding shift_rows block_at
  shift_block h =
      state_same (λ r c. plane_byte new _) (λ r c. at (block_at place old k) r _)
      (λ r c hr hc. h k r c hk hr hc ∙ sym (at_old r _ hr (omega arith)))

  pub mix_block : ((r c : ℕ) → r < 4 → c < 4 → plane_byte new (place k (r + 4 * c)) ≡ mixed (plane_byte old (place k (r + 4 * c)))
      (plane_byte old (place k (below 1 r c))) (plane_byte old (place k (below 2 r c))) (plane_byte old (place k (below 3 r c))))
      → block_at place new k ≡ mix_columns (block_at place old k)
  unfolding mix_columns block_at
  mix_block h =
      state_same (λ r c. plane_byte new _)
      (λ r c. mixed _ _ _ _)
      (λ r c hr hc.
      let there : (i : ℕ) → plane_byte old (place k (below i r c)) ≡ at (block_at place old k) ((r + i) % 4) c =
      λ i. sym (at_old ((r + i) % 4) c (omega arith) hc) in
      h r c hr hc ∙ ap₂ bit_xor
      (ap₂ bit_xor (ap₂ (λ s t. bit_xor (mul8 2 s) (mul8 3 t)) (sym (at_old r c hr hc)) (there 1)) (there 2)) (there 3))

  pub add_block : (key : List ℕ) (w : List (List ℕ)) (j : ℕ) → HoldsRound place k w j key
      → ((p : ℕ) → plane_byte new p ≡ bit_xor (plane_byte old p) (plane_byte key p))
      → block_at place new k ≡ add_round_key w j (block_at place old k)
  unfolding add_round_key block_at
  add_block key w j holds h =
      state_same (λ r c. plane_byte new _) (λ r c. bit_xor (at (block_at place old k) r c) (slice_index (word_at w _) r))
      (λ r c hr hc. h _ ∙ ap₂ bit_xor (sym (at_old r c hr hc)) (holds r c hr hc))

-- rounds tell blocks apart by their sums with the first round key alone
rounds_same : (w : List (List ℕ)) (a b : List ℕ) → add_round_key w 0 a ≡ add_round_key w 0 b
    → (n : ℕ) → rounds w a n ≡ rounds w b n
unfolding rounds
rounds_same w a b e zero = e
rounds_same w a b e (suc n) = ap (λ s. add_round_key w (suc n) (mix_columns (shift_rows (sub_bytes s)))) (rounds_same w a b e n)

added_block : (place : ℕ → ℕ → ℕ) (planes : List ℕ) (block : List ℕ) (w : List (List ℕ)) (k : ℕ)
    → ((j : ℕ) → j < 16 → plane_byte planes (place k j) ≡ slice_index block j)
    → add_round_key w 0 (block_at place planes k) ≡ add_round_key w 0 block
unfolding block_at add_round_key
added_block place planes b w k h =
    state_same (λ r c. bit_xor (at (block_at place planes k) r c) (slice_index (word_at w _) r)) (λ r c. bit_xor (at b r c)
    (slice_index (word_at w _) r))
    (λ r c hr hc.
    ap (λ t. bit_xor t (slice_index (word_at w (4 * 0 + c)) r))
    (at_state (λ r c. plane_byte planes (place k (r + 4 * c))) r c hr hc ∙ h (r + 4 * c) (omega arith)))

-- packed blocks
pub packed_block : (place : ℕ → ℕ → ℕ) (planes : List ℕ) (block : List ℕ) (w : List (List ℕ)) (nr k : ℕ)
    → ((j : ℕ) → j < 16 → plane_byte planes (place k j) ≡ slice_index block j)
    → cipher w nr (block_at place planes k) ≡ cipher w nr block
unfolding block_at cipher
packed_block place planes b w nr k h =
    let first : add_round_key w 0 (block_at place planes k) ≡ add_round_key w 0 b = added_block place planes b w k h in
    ap (λ s. add_round_key w nr (shift_rows (sub_bytes s))) (rounds_same w (block_at place planes k) b first (nr - 1))

pub by_four : (P : ℕ → Type 0) → P 0 → P 1 → P 2 → P 3 → (k : ℕ) → k < 4 → P k
by_four P a b c d zero h = a
by_four P a b c d (suc zero) h = b
by_four P a b c d (suc (suc zero)) h = c
by_four P a b c d (suc (suc (suc zero))) h = d
by_four P a b c d _ h = absurd (omega arith)
