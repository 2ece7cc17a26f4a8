-- The key schedule, word by word.
use Rattle.std.proofs.Common.{◌≡◌, ℕ, suc, ◌+◌, ◌-◌, ◌*◌, ◌/◌, ◌%◌, ◌<◌, ◌≤◌, true, false, ◌&&◌, List, [], ◌∷◌, ◌++◌, length, take, set, refl, sym, ◌∙◌, ap, ap₂, arith, slice_index, get_or-take, eq-eqb, ne_eqb, ◌==◌, nat_lt, lt-ltb}
use Rattle.std.proofs.lemmas
use lemmas.List.{take_more_set}
use lemmas.List.FromFn.{map-range_with_len_more}
use Rattle.aead_ciphers_base.specs
use specs.Bytes.{each_below, ◌⊕◌}
use lemmas.Bool.{cond-true, cond-false, and_from}
use specs.declared.aes.key_schedule.TheConstants.{ROUND_CONSTANTS}
use specs.Aes.{word_at, rot_word, sub_word, power_of_x, next_word, key_words}
use Rattle.aead_ciphers_base.proofs
use proofs.NumberBits.{all_below, same_below}
use proofs.ByteFieldLaws.{field}

constants_test : all_below (λ n. slice_index ROUND_CONSTANTS n == power_of_x n) 10 ≡ true
unfolding field power_of_x
constants_test = refl

pub round_constant_is : (n : ℕ) → n < 10 → slice_index ROUND_CONSTANTS n ≡ power_of_x n
round_constant_is n h = same_below (slice_index ROUND_CONSTANTS) power_of_x 10 n constants_test h

module _ (nk : ℕ) (w : List (List ℕ)) (i : ℕ) where
  abbrev before : List ℕ
  before = word_at w (i - 1)

  abbrev back : List ℕ
  back = word_at w (i - nk)

  pub next_word_turned : i % nk ≡ 0 → next_word nk w i ≡ back ⊕ (sub_word (rot_word before) ⊕ (power_of_x (i / nk - 1) ∷ 0 ∷ 0 ∷ 0 ∷ []))
  unfolding next_word
  next_word_turned e = ap (λ u. back ⊕ u) (cond-true (i % nk == 0) _ _ (eq-eqb (i % nk) 0 e))

  pub next_word_middle : (i % nk ≡ 0 → ⊥) → 6 < nk → i % nk ≡ 4 → next_word nk w i ≡ back ⊕ sub_word before
  unfolding next_word
  next_word_middle ne e f =
      ap (λ u. back ⊕ u)
      (cond-false (i % nk == 0) _ _ (ne_eqb (i % nk) 0 ne)
      ∙ cond-true (nat_lt 6 nk && (i % nk == 4)) _ _ (and_from (nat_lt 6 nk) _ (lt-ltb 6 nk e) (eq-eqb (i % nk) 4 f)))

  pub next_word_plain : (i % nk ≡ 0 → ⊥) → ((nat_lt 6 nk && (i % nk == 4)) ≡ false) → next_word nk w i ≡ back ⊕ before
  unfolding next_word
  next_word_plain ne f =
      ap (λ u. back ⊕ u) (cond-false (i % nk == 0) _ _ (ne_eqb (i % nk) 0 ne) ∙ cond-false _ _ _ f)

-- the next word looks at the words before it alone
next_word_front : (nk : ℕ) (w : List (List ℕ)) (i : ℕ) → 0 < nk → nk ≤ i → next_word nk (take i w) i ≡ next_word nk w i
unfolding next_word
next_word_front nk w i hk hi =
    let last = get_or-take i w (i - 1) [] (omega arith) in
    let back = get_or-take i w (i - nk) [] (omega arith) in
    rw (last, back) refl

-- ---- the loops of `expand`

abbrev pub key_word : List ℕ → ℕ → List ℕ
key_word key i = each_below 4 (λ k. slice_index key (4 * i + k))

key_word_is : (key : List ℕ) (i : ℕ)
    → (slice_index key (4 * i) ∷ slice_index key (4 * i + 1) ∷ slice_index key (4 * i + 2) ∷ slice_index key (4 * i + 3)
    ∷ []) ≡ key_word key i
key_word_is key i =
    let e : 4 * i ≡ 4 * i + 0 = omega arith in
    ap (λ t. slice_index key t ∷ slice_index key (4 * i + 1) ∷ slice_index key (4 * i + 2) ∷ slice_index key (4 * i + 3) ∷ []) e

pub first_word_step : (key : List ℕ) (words : List (List ℕ)) (i : ℕ) → i < length words → take i words ≡ each_below i (key_word key)
    → take (i + 1) (set words i (slice_index key (4 * i) ∷ slice_index key (4 * i + 1) ∷ slice_index key (4 * i + 2)
    ∷ slice_index key (4 * i + 3) ∷ []))
    ≡ each_below (i + 1) (key_word key)
first_word_step key words i lt e =
    take_more_set words i _ lt ∙ ap₂ (λ t v. t ++ v ∷ []) e (key_word_is key i) ∙ sym (map-range_with_len_more (key_word key) 0 i i (omega arith))

key_words_none : (nk : ℕ) (key : List ℕ) → key_words nk key (nk - nk) ≡ each_below nk (key_word key)
unfolding key_words
key_words_none nk key = let e : nk - nk ≡ 0 = omega arith in ap (key_words nk key) e

pub first_words_end : (nk : ℕ) (key : List ℕ) (words : List (List ℕ)) (i : ℕ) → i ≡ nk → take i words ≡ each_below i (key_word key)
    → take nk words ≡ key_words nk key (nk - nk)
first_words_end nk key words i e h =
    ap (λ n. take n words) (sym e) ∙ h ∙ ap (λ n. each_below n (key_word key)) e ∙ sym (key_words_none nk key)

key_words_more : (nk : ℕ) (key : List ℕ) (n : ℕ) → nk ≤ n
    → key_words nk key (n + 1 - nk) ≡ key_words nk key (n - nk) ++ next_word nk (key_words nk key (n - nk)) n ∷ []
unfolding key_words
key_words_more nk key n h =
    let next : n + 1 - nk ≡ suc (n - nk) = omega arith in
    let place : nk + (n - nk) ≡ n = omega arith in
    ap (key_words nk key) next ∙ ap (λ i. key_words nk key (n - nk) ++ next_word nk (key_words nk key (n - nk)) i ∷ []) place

pub next_word_step : (nk : ℕ) (key : List ℕ) (words : List (List ℕ)) (n : ℕ) (v : List ℕ) → 0 < nk → nk ≤ n → n < length words
    → take n words ≡ key_words nk key (n - nk) → v ≡ next_word nk words n → take (n + 1) (set words n v) ≡ key_words nk key (n + 1 - nk)
next_word_step nk key words n v hk hn lt e ev =
    take_more_set words n v lt
    ∙ ap₂ (λ t x. t ++ x ∷ []) e (ev ∙ sym (next_word_front nk words n hk hn) ∙ ap (λ t. next_word nk t n) e)
    ∙ sym (key_words_more nk key n hn)
