-- The bytes of counter blocks, and the blocks that follow one.
use Rattle.std.proofs
use proofs.Common.{◌≡◌, ℕ, ◌+◌, ◌%◌, ◌^◌, ◌<◌, List, [], ◌∷◌, ◌++◌, length, take, drop, set, get_or, refl, sym, ap, ap₂, subst, ◌∙◌, arith, take-append-drop, length-append, length-take-le, length-drop, get_or-drop, take_at, drop_at, get_or-append-add, append-nil}
use Rattle.std.specs.Int.{from_be_bytes, to_be_bytes, w32}
use proofs.lemmas.Nat.{be_bytes_4, from_be_bytes-to_be_bytes_4}
use proofs.lemmas.List.{set-append_right}
use Rattle.aead_ciphers_base.specs.CounterMode.{counter_block, IsCounter, Advances}

pub length-counter_block : (nonce : List ℕ) (k : ℕ) → length nonce ≡ 12 → length (counter_block nonce k) ≡ 16
unfolding counter_block
length-counter_block nonce k size = length-append nonce (to_be_bytes w32 (k % 2 ^ 32)) ∙ ap (λ n. n + 4) size

-- its last four bytes
pub last_byte : (old nonce : List ℕ) (k j : ℕ) → IsCounter old nonce k → get_or old (12 + j) 0 ≡ get_or (to_be_bytes w32 (k % 2 ^ 32)) j 0
unfolding counter_block
last_byte old nonce k j at =
    ap (λ xs. get_or xs (12 + j) 0) at.value
    ∙ ap (λ n. get_or (nonce ++ to_be_bytes w32 (k % 2 ^ 32)) (n + j) 0) (sym at.size)
    ∙ get_or-append-add nonce (to_be_bytes w32 _) j 0

pub number_is : (old nonce : List ℕ) (k : ℕ) → IsCounter old nonce k →
    from_be_bytes w32 (get_or old 12 0 ∷ get_or old 13 0 ∷ get_or old 14 0 ∷ get_or old 15 0 ∷ []) ≡ k % 2 ^ 32
number_is old nonce k at =
    rw (last_byte old nonce k 0 at, last_byte old nonce k 1 at, last_byte old nonce k 2 at, last_byte old nonce k 3 at)
    (from_be_bytes-to_be_bytes_4 _ (omega arith))

sum_later : (k by : ℕ) → (k % 2 ^ 32 + by) % 2 ^ 32 ≡ (k + by) % 2 ^ 32
sum_later k by = omega arith

pub counter_more : (old nonce bytes : List ℕ) (k by number : ℕ) → IsCounter old nonce k → number ≡ k % 2 ^ 32 →
    bytes ≡ to_be_bytes w32 ((number + by) % 2 ^ 32) → IsCounter (take 12 old ++ (bytes ++ drop 4 (drop 12 old))) nonce (k + by)
unfolding counter_block
counter_more old nonce bytes k by number at ne be =
    let bs = to_be_bytes w32 (k % 2 ^ 32) in
    record {
      size = at.size;
      value =
          ap₂ (λ u v. u ++ (bytes ++ drop 4 v))
          (ap (take 12) at.value ∙ take_at nonce bs 12 at.size) (ap (drop 12) at.value ∙ drop_at nonce bs 12 at.size)
          ∙ ap (λ u. nonce ++ u) (append-nil bytes ∙ be ∙ ap (to_be_bytes w32) (ap (λ x. (x + by) % 2 ^ 32) ne
          ∙ sum_later k by));
    }

pub counter_one : (nonce copied : List ℕ) → length nonce ≡ 12 → copied ≡ nonce → IsCounter (set (copied ++ 0 ∷ 0 ∷ 0 ∷ 0 ∷ []) 15 1) nonce 1
unfolding counter_block
counter_one nonce copied size e = record {
  size = size;
  value = ap (λ u. set (u ++ 0 ∷ 0 ∷ 0 ∷ 0 ∷ []) 15 1) e
      ∙ set-append_right nonce (0 ∷ 0 ∷ 0 ∷ 0 ∷ []) 12 15 1 size (omega arith);
}

pub counter_at : (c nonce : List ℕ) (j k : ℕ) → IsCounter c nonce j → j ≡ k → IsCounter c nonce k
counter_at c nonce j k at e = subst (λ n. IsCounter c nonce n) e at

-- a counter block that no call changed
pub advances_none : (c : List ℕ) → Advances c c 0
advances_none c = λ nonce k at. counter_at c nonce k _ at (omega arith)

-- two advances make one
pub advances_more : (a b c : List ℕ) (m n sum : ℕ) → Advances a b m → Advances b c n → m + n ≡ sum → Advances a c sum
advances_more a b c m n sum first second e = λ nonce k at.
    counter_at c nonce _ _ (second nonce _ (first nonce k at)) (omega (arith, e))

-- every block of bytes is a counter block
pub counter_exists : (block : List ℕ) → length block ≡ 16 → ((i : ℕ) → get_or block i 0 < 256)
    → IsCounter block (take 12 block) (from_be_bytes w32 (drop 12 block))
unfolding counter_block
counter_exists block size bytes =
    let last = drop 12 block in
    let below : (i : ℕ) → get_or last i 0 < 256 = λ i. subst (λ x. x < 256) (sym (get_or-drop 12 block i 0))
    (bytes (12 + i)) in
    let four : length last ≡ 4 = length-drop 12 block ∙ omega arith in
    let number = from_be_bytes w32 last in
    let again = be_bytes_4 last number four below refl in
    let small : number % 2 ^ 32 ≡ number = omega (arith, below 0, below 1, below 2, below 3) in
    record {
      size = length-take-le 12 block (omega arith);
      value = sym (ap (λ x. take 12 block ++ x) (ap (to_be_bytes w32) small ∙ again) ∙ take-append-drop 12 block);
    }
