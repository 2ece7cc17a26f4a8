-- Nonces that are counted, each different from those before it, and how they are written.
use Rattle.std.proofs.Common.{◌≡◌, ℕ, zero, suc, ◌+◌, ◌<◌, ◌≤◌, ◌^◌, List, [], ◌∷◌, ◌++◌, length, drop, Contains, inl, inr, ap, subst, sym, refl, ◌∙◌, arith, append-nil, drop_at}
use Rattle.std.proofs.lemmas
use lemmas.List.{drop_all}
use lemmas.List.Elements.{Contains-append_cases}
use lemmas.List.FromFn.{map-range_with_len_more}
use lemmas.Nat.{from_be_bytes-to_be_bytes_8}
use Rattle.std.specs.Int.{to_be_bytes, from_be_bytes, w64}
use Rattle.aead_ciphers.specs
use specs.Bytes.{each_below, ◌⊕◌}
use Rattle.aead_ciphers_base.proofs.XorLemmas.{xor-xor}
use specs.Counting.{Counting, next_nonce, prefixed_nonce, spent_nonces, xored_nonce}
use borrow.Rule.Slice.PartMut.{put_mid}

in_one : (y x : List ℕ) → Contains (y ∷ []) x → y ≡ x
in_one y x (zero, h, e) = e
in_one y x (suc k, h, e) = absurd (omega arith)

each_more : (n : ℕ) (f : ℕ → List ℕ) → each_below (n + 1) f ≡ each_below n f ++ f n ∷ []
each_more n f = map-range_with_len_more f 0 n n (omega arith)

-- what differs from each of the first m isn't among them
not_among : (f : ℕ → List ℕ) (x : List ℕ) (m : ℕ) → ((k : ℕ) → k < m → ¬ (f k ≡ x)) → ¬ Contains (each_below m f) x
not_among f x zero h (i, lt, e) = absurd (omega arith)
not_among f x (suc m) h c =
    let step : suc m ≡ m + 1 = omega arith in
    let split = ap (λ n. each_below n f) step ∙ each_more m f in
    elim (Contains-append_cases (each_below m f) _ x (subst (λ (l : List (List ℕ)). Contains l x) split c)) [
      | inl was ↦ not_among f x m (λ k lt. h k (omega arith)) was
      | inr now ↦ h m (omega arith) (in_one _ _ now)
    ]

pub spent_nonces-next : (nonce : List ℕ → ℕ → List ℕ) (s : Counting)
    → spent_nonces nonce (record s { used = s.used + 1 }) ≡ spent_nonces nonce s ++ next_nonce nonce s ∷ []
unfolding spent_nonces
spent_nonces-next nonce s = each_more s.used (λ k. nonce s.fixed _)

-- the next nonce isn't spent, where a nonce gives its number back
fresh_nonce : (nonce : List ℕ → ℕ → List ℕ) (number : List ℕ → List ℕ) (s : Counting) → ((n : ℕ) → number (nonce s.fixed n) ≡ to_be_bytes w64 n)
    → s.first + s.used < 2 ^ 64 → ¬ Contains (spent_nonces nonce s) (next_nonce nonce s)
unfolding spent_nonces
fresh_nonce nonce number s reads h = not_among (λ k. nonce s.fixed (s.first + k)) (next_nonce nonce s) s.used (λ k lt e.
    let same =
    sym (ap (from_be_bytes w64) (reads (s.first + k)) ∙ from_be_bytes-to_be_bytes_8 _ (omega arith))
    ∙ ap (λ x. from_be_bytes w64 (number x)) e
    ∙ ap (from_be_bytes w64) (reads (s.first + s.used)) ∙ from_be_bytes-to_be_bytes_8 _ h in
    absurd (omega arith))

pub fresh_prefixed : (s : Counting) → s.first + s.used < 2 ^ 64 → ¬ Contains (spent_nonces prefixed_nonce s) (next_nonce prefixed_nonce s)
unfolding prefixed_nonce
fresh_prefixed s = fresh_nonce prefixed_nonce (drop (length s.fixed)) s (λ n. drop_at s.fixed _ _ refl)

pub fresh_xored : (s : Counting) → length s.fixed ≡ 12 → s.first + s.used < 2 ^ 64
    → ¬ Contains (spent_nonces xored_nonce s) (next_nonce xored_nonce s)
unfolding xored_nonce
fresh_xored s l = fresh_nonce xored_nonce (λ x. drop 4 (x ⊕ s.fixed)) s (λ n.
    ap (drop 4) (xor-xor (0 ∷ 0 ∷ 0 ∷ 0 ∷ to_be_bytes w64 n) s.fixed (omega (arith, l))))

-- twelve zero bytes, written over by a prefix of four and eight more
pub over_zeros : (prefix number : List ℕ) (n : ℕ) → length prefix ≡ 4 → number ≡ to_be_bytes w64 n
    → put_mid 4 8 (prefix ++ (0 ∷ 0 ∷ 0 ∷ 0 ∷ 0 ∷ 0 ∷ 0 ∷ 0 ∷ [])) number ≡ prefixed_nonce prefix n
unfolding prefixed_nonce
over_zeros (a ∷ b ∷ c ∷ d ∷ []) number n l e = ap (λ t. a ∷ b ∷ c ∷ d ∷ t) (append-nil number ∙ e)
over_zeros _ number n l e = absurd (omega arith)

-- four zeros and eight bytes, XORed with the IV in place
pub over_padded : (number iv : List ℕ) (n : ℕ) → number ≡ to_be_bytes w64 n → length number ≡ 8 → length iv ≡ 12
    → ((0 ∷ 0 ∷ 0 ∷ 0 ∷ (number ++ [])) ⊕ iv) ++ drop (length iv) (0 ∷ 0 ∷ 0 ∷ 0 ∷ (number ++ [])) ≡ xored_nonce iv n
unfolding xored_nonce
over_padded number iv n e l m =
    let long : length (0 ∷ 0 ∷ 0 ∷ 0 ∷ number) ≤ length iv = omega (arith, l, m) in
    rw (append-nil number, drop_all _ _ long, append-nil _, e) refl
