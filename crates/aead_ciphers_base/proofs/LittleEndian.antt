-- Words and bytes in little-endian order.
use Rattle.std.proofs
use proofs.Common.{◌≡◌, ℕ, zero, suc, ◌+◌, ◌*◌, ◌^◌, ◌<◌, ◌≤◌, List, [], ◌∷◌, ◌++◌, length, take, drop, get_or, slice_index, slice_set, refl, ap, ap₂, sym, ◌∙◌, arith, get_or-drop}
use Rattle.std.specs.Int.{w32, from_le_bytes, to_le_bytes}
use proofs.lemmas.List.{take_more, drop_all, set_at}
use proofs.lemmas.Grind.{flat_map-append}
use proofs.lemmas.Nat.{le_bytes_4, from_le_bytes-to_le_bytes_4}
use proofs.lemmas.Slice.{take-put_mid}
use borrow.Rule.Slice.PartMut.{put_mid}
use Rattle.aead_ciphers_base.specs
use specs.ChaCha20.{le_words, le_bytes, initial_state}
use proofs.Math.Seq.{drop-cons}
use Rattle.aead_ciphers_base.proofs.PlaneBlocks.{by_four}

-- the n elements from index k on
abbrev pub elements_from : ℕ → ℕ → List ℕ → List ℕ
elements_from zero k xs = []
elements_from (suc n) k xs = slice_index xs k ∷ elements_from n (suc k) xs

-- what is left from index k on, element by element
pub drop-elements : (n k : ℕ) (xs : List ℕ) → length xs ≡ k + n → drop k xs ≡ elements_from n k xs
drop-elements zero k xs e = drop_all k xs (omega arith)
drop-elements (suc n) k xs e =
    drop-cons xs k 0 (omega arith) ∙ ap (λ ys. slice_index xs k ∷ ys) (drop-elements n _ xs (omega arith))

-- the first word, and the words after it
pub le_words-first : (bytes : List ℕ) → 4 ≤ length bytes → le_words bytes ≡ from_le_bytes w32 (take 4 bytes) ∷ le_words (drop 4 bytes)
unfolding le_words
le_words-first (a ∷ b ∷ c ∷ d ∷ bytes) h = refl
le_words-first _ h = absurd (omega arith)

-- the words from a byte on
pub le_words-from : (at : ℕ) (bytes : List ℕ) → at + 4 ≤ length bytes → le_words (drop at bytes)
    ≡ from_le_bytes w32 (get_or bytes at 0 ∷ get_or bytes (at + 1) 0 ∷ get_or bytes (at + 2) 0 ∷ get_or bytes (at + 3) 0 ∷ []) ∷ le_words (drop (at + 4) bytes)
unfolding le_words
le_words-from at bytes h =
    let e1 : at + 1 ≡ suc at = omega arith in
    let e2 : at + 2 ≡ suc (suc at) = omega arith in
    let e3 : at + 3 ≡ suc (suc (suc at)) = omega arith in
    let e4 : at + 4 ≡ suc (suc (suc (suc at))) = omega arith in
    rw (
      e1,
      e2,
      e3,
      e4,
      drop-cons bytes at 0 (omega arith),
      drop-cons bytes (suc at) 0 (omega arith),
      drop-cons bytes (suc (suc at)) 0 (omega arith),
      drop-cons bytes (suc (suc (suc at))) 0 (omega arith),
    ) refl

-- the words of the bytes of words
pub le_words-le_bytes : (words : List ℕ) → ((i : ℕ) → get_or words i 0 < 2 ^ 32) → le_words (le_bytes words) ≡ words
unfolding le_words le_bytes
le_words-le_bytes [] fits = refl
le_words-le_bytes (w ∷ words) fits =
    ap₂ (λ (x : ℕ) (xs : List ℕ). x ∷ xs) (from_le_bytes-to_le_bytes_4 w (fits 0)) (le_words-le_bytes words (λ i. fits (suc i)))

-- and of those after the first
pub le_words-le_bytes_rest : (words : List ℕ) → ((i : ℕ) → get_or words i 0 < 2 ^ 32) → le_words (le_bytes (drop 1 words)) ≡ drop 1 words
le_words-le_bytes_rest words fits = le_words-le_bytes (drop 1 words) (λ i. rw get_or-drop (fits (1 + i)))

four_fit : (a b c d : ℕ) → a < 256 → b < 256 → c < 256 → d < 256 → (i : ℕ) → get_or (a ∷ b ∷ c ∷ d ∷ []) i 0 < 256
four_fit a b c d ha hb hc hd zero = ha
four_fit a b c d ha hb hc hd (suc zero) = hb
four_fit a b c d ha hb hc hd (suc (suc zero)) = hc
four_fit a b c d ha hb hc hd (suc (suc (suc zero))) = hd
four_fit a b c d ha hb hc hd (suc (suc (suc (suc i)))) = omega arith

-- the bytes of the words of bytes
pub le_bytes-le_words : (n : ℕ) (bytes : List ℕ) → length bytes ≡ 4 * n → ((i : ℕ) → get_or bytes i 0 < 256) → le_bytes (le_words bytes) ≡ bytes
unfolding le_words le_bytes
le_bytes-le_words zero [] h fits = refl
le_bytes-le_words (suc n) (a ∷ b ∷ c ∷ d ∷ bytes) h fits =
    ap₂ (λ (x : List ℕ) (y : List ℕ). x ++ y)
    (le_bytes_4 (a ∷ b ∷ c ∷ d ∷ []) _ refl (four_fit a b c d (fits 0) (fits 1) (fits 2) (fits 3)) refl)
    (le_bytes-le_words n bytes (omega arith) (λ i. fits (suc (suc (suc (suc i))))))
le_bytes-le_words _ _ h fits = absurd (omega arith)

-- the bytes of one more word, written after those of i words
pub take-le_bytes : (out words bytes : List ℕ) (i k : ℕ) → length out ≡ 4 * length words → i < length words
    → take (4 * i) out ≡ le_bytes (take i words) → bytes ≡ to_le_bytes w32 (get_or words i 0)
    → take (4 * (i + 1)) (put_mid (4 * i) k out bytes) ≡ le_bytes (take (i + 1) words)
unfolding le_bytes
take-le_bytes out words bytes i k h within held e =
    let four : length bytes ≡ 4 = rw e refl in
    let front =
    take-put_mid (4 * i) k out bytes (4 * (i + 1)) (omega arith) (omega arith) in
    rw (front, held, e, take_more words i 0 within) (sym (flat_map-append (to_le_bytes w32) _ _))

pub length-le_bytes : (words : List ℕ) → length (le_bytes words) ≡ 4 * length words
unfolding le_bytes
length-le_bytes [] = refl
length-le_bytes (w ∷ words) = omega (arith, length-le_bytes words)

-- byte r of word k
pub get_or-le_bytes : (words : List ℕ) (k r : ℕ) → r < 4 → get_or (le_bytes words) (4 * k + r) 0 ≡ get_or (to_le_bytes w32 (get_or words k 0)) r 0
unfolding le_bytes
get_or-le_bytes [] k r h = by_four (λ r. 0 ≡ get_or (to_le_bytes w32 0) r 0) refl refl refl refl r h
get_or-le_bytes (w ∷ words) zero r h =
    by_four (λ r. get_or (le_bytes (w ∷ words)) (4 * 0 + r) 0 ≡ get_or (to_le_bytes w32 w) r 0) refl refl refl refl r h
get_or-le_bytes (w ∷ words) (suc k) r h =
    let next : 4 * suc k + r ≡ suc (suc (suc (suc (4 * k + r)))) = omega arith in
    rw next (get_or-le_bytes words k r h)

-- the initial state, word by word
pub initial_state_words : (key counter : List ℕ) (number : ℕ) → length key ≡ 8 → length counter ≡ 4
    → ((i : ℕ) → get_or key i 0 < 2 ^ 32) → ((i : ℕ) → get_or counter i 0 < 2 ^ 32)
    → 0x61707865 ∷ 0x3320646e ∷ 0x79622d32 ∷ 0x6b206574 ∷ elements_from 8 0 key ++ number ∷ elements_from 3 1 counter
    ≡ initial_state (le_bytes key) number (le_bytes (drop 1 counter))
unfolding initial_state
initial_state_words key counter number lk lc fk fc =
    sym (ap₂ (λ k n. 0x61707865 ∷ 0x3320646e ∷ 0x79622d32 ∷ 0x6b206574 ∷ k ++ number ∷ n)
    (le_words-le_bytes key fk ∙ drop-elements 8 0 key lk) (le_words-le_bytes_rest counter fc ∙ drop-elements 3 1 counter lc))

-- the block counter is word 12
pub counter-initial_state : (key nonce : List ℕ) (m n : ℕ) → length (le_words key) ≡ 8
    → slice_set (initial_state key m nonce) 12 n ≡ initial_state key n nonce
unfolding initial_state
counter-initial_state key nonce m n size =
    ap (λ ws. 0x61707865 ∷ 0x3320646e ∷ 0x79622d32 ∷ 0x6b206574 ∷ ws) (set_at (le_words key) m _ n 8 size)

-- words as bytes, and back
pub ruleset read_and_written = (le_words-le_bytes, take-le_bytes)
