-- Lemmas on lists of bytes, and the steps of the loops over them.
use Rattle.std.proofs
use proofs.Common.{arith, refl, sym, ap, ◌∙◌, ◌≡◌, ℕ, ◌+◌, ◌<◌, min, length-drop, List, [], ◌∷◌, ◌++◌, length, take, drop, get_or, map, bit_xor, bit_or, slice_set, add-one, append_assoc, drop-set-lt, take-append-drop}
use proofs.lemmas.List.{drop_more}
use proofs.lemmas.Nat.{le_or_l, le_or_r}
use proofs.Math.Seq.{take-suc-set}
use Rattle.std.specs.Int.Bits.{xor_assoc, xor_self, xor_zero_l, xor_zero_r}
use proofs.lemmas.Grind.{common_steps}
use borrow.Author.Count.{below_more}
use Rattle.aead_ciphers_base.specs.Bytes.{◌⊕◌}

pub same_of_xor : (x y : ℕ) → bit_xor x y ≡ 0 → x ≡ y
same_of_xor x y e = sym (xor_zero_r x) ∙ ap (bit_xor x) (sym (xor_self y)) ∙ sym (xor_assoc x y y)
    ∙ ap (λ z. bit_xor z y) e ∙ xor_zero_l y

-- the difference is 0 exactly where the first i bytes are the same, in two halves
pub record SameSoFar (a b : List ℕ) (difference i : ℕ) : Type 0 where
  pub same : difference ≡ 0 → (k : ℕ) → k < i → get_or a k 0 ≡ get_or b k 0
  pub zero_where_same : a ≡ b → difference ≡ 0

-- one more byte is compared
pub same_more : (a b : List ℕ) (difference i : ℕ) → SameSoFar a b difference i
    → SameSoFar a b (bit_or difference (bit_xor (get_or a i 0) (get_or b i 0)))
    (i + 1)
same_more a b difference i s =
    record {
      same = λ e.
          let first : difference ≡ 0 = omega (arith, le_or_l difference (bit_xor (get_or a i 0) (get_or b i 0))) in
          let here : bit_xor (get_or a i 0) (get_or b i 0) ≡ 0 = omega (arith, le_or_r difference (bit_xor (get_or a i 0) (get_or b i 0))) in
          below_more (λ (k : ℕ). get_or a k 0 ≡ get_or b k 0) i (s.same first) (same_of_xor (get_or a i 0) _ here);
      zero_where_same = λ e. rw (e, xor_self, s.zero_where_same e) refl;
    }

module _ (a a' : List ℕ) (i v : ℕ) (here : i < length a) (is : a' ≡ slice_set a i v) where
  rest_set : (k : ℕ) → i < k → drop k a' ≡ drop k a
  rest_set k after = ap (drop k) is ∙ drop-set-lt k a i v after

  front_set : take (i + 1) a' ≡ take i a ++ (v ∷ [])
  front_set = ap (take (i + 1)) is ∙ ap (λ k. take k (slice_set a i v)) (add-one i) ∙ take-suc-set a i v here

  -- one more byte is XORed with b
  pub xor_more : (b : ℕ) → v ≡ bit_xor (get_or a i 0) b → take (i + 1) a' ++ map (λ x. bit_xor x b) (drop (i + 1) a')
      ≡ take i a ++ map (λ x. bit_xor x b) (drop i a)
  xor_more b e = rw (front_set, rest_set (i + 1) (omega arith), drop_more a i 0 here, e, append_assoc) refl

  -- one more byte is XORed with the byte of b at its place
  pub xor_at_start_more : (b : List ℕ) → i < length b → v ≡ bit_xor (get_or a i 0) (get_or b i 0)
      → take (i + 1) a' ++ (drop (i + 1) a' ⊕ drop (i + 1) b) ++ drop (length b) a' ≡ take i a ++ (drop i a ⊕ drop i b) ++ drop (length b) a
  xor_at_start_more b within e =
      let past = rest_set _ within in
      rw (front_set, past, rest_set (i + 1) (omega arith), drop_more a i 0 here, drop_more b i 0 within, e) (simp append_assoc)

xor_none : (xs ys : List ℕ) → min (length xs) (length ys) ≡ 0 → xs ⊕ ys ≡ []
xor_none [] ys e = refl
xor_none (x ∷ xs) [] e = refl
xor_none _ _ e = absurd (omega arith)

-- after the shorter list nothing is left to XOR
pub xor_at_start_end : (a b : List ℕ) (i : ℕ) → i ≡ min (length a) (length b) → take i a ++ (drop i a ⊕ drop i b) ++ drop (length b) a ≡ a
xor_at_start_end a b i e =
    let none = xor_none (drop i a) (drop i b) (omega (arith, length-drop i a, length-drop i b)) in
    rw none (grind (arith, common_steps, take-append-drop))
