-- Lemmas on the blocks of a list.
use Rattle.std.proofs
use proofs.Common.{arith, refl, sym, subst, ap, ◌∙◌, ◌≡◌, ℕ, zero, suc, ◌+◌, ◌-◌, ◌*◌, ◌/◌, ◌%◌, ◌<◌, ◌≤◌, List, [], ◌∷◌, length, take, drop, get_or, add-one, length-drop, min, max, add-zero, inl, inr, Option, None, Some, MatchOption, MutBor, ◌++◌, length-append, take-append-drop, drop-drop, length-take-le, take-take, take_all}
use proofs.lemmas.List.{drop-take}
use proofs.lemmas.Bool.{cases_lt}
use proofs.Math.Nat.{mod_self, mod-add-div', mul-mod_left, add-div_right, div-eq_of_lt, div-zero, div-mul-le_self, suc-mul, mul-div_cancel, mul-le-mul_right, add_comm, add-mod-mod, add-mul-mod_self_right, mod-zero, zero-mod}
use proofs.Math.Seq.{take-length}
use Rattle.std.specs.Simd.{first_chunks}
use Rattle.aead_ciphers_base.specs.Blocks.{blocks, joined}

pub blocks_none : {T : Type 0} (xs : List T) → blocks 0 xs ≡ []
unfolding blocks
blocks_none xs = ap (λ k. first_chunks 0 k xs) (div-zero (length xs))

pub blocks_short : {T : Type 0} (n : ℕ) (xs : List T) → length xs < n → blocks n xs ≡ []
unfolding blocks
blocks_short n xs short = ap (λ k. first_chunks n k xs) (div-eq_of_lt short)

one_less : (n k : ℕ) → 0 < n → n ≤ k → k / n ≡ suc ((k - n) / n)
one_less n k some fits =
    let e : k ≡ k - n + n = omega arith in
    let d = add-div_right _ some in
    ap (λ m. m / n) e ∙ d ∙ add-one _

pub blocks_cons : {T : Type 0} (n : ℕ) (xs : List T) → 0 < n → n ≤ length xs → blocks n xs ≡ take n xs ∷ blocks n (drop n xs)
unfolding blocks
blocks_cons n xs some fits =
    ap (λ k. first_chunks n k xs) (one_less n _ some fits ∙ ap (λ k. suc (k / n)) (sym (length-drop n xs)))

length-first_chunks : {T : Type 0} (n k : ℕ) (xs : List T) → length (first_chunks n k xs) ≡ k
length-first_chunks n zero xs = refl
length-first_chunks n (suc k) xs = ap suc (length-first_chunks n k _)

pub length_blocks : {T : Type 0} (n : ℕ) (xs : List T) → length (blocks n xs) ≡ length xs / n
unfolding blocks
length_blocks n xs = length-first_chunks n _ xs

first_chunks-take : {T : Type 0} (n k m : ℕ) (xs : List T) → k * n ≤ m → first_chunks n k (take m xs) ≡ first_chunks n k xs
first_chunks-take n zero m xs h = refl
first_chunks-take n (suc k) m xs h =
    let more = subst (λ x. x ≤ m) (suc-mul k n) h in
    let e : n + (m - n) ≡ m = omega arith in
    let front = take-take n m xs (omega arith) in
    let back = ap (λ x. drop n (take x xs)) (sym e) ∙ drop-take n (m - n) xs in
    let tail = first_chunks-take n k (m - n) (drop n xs) (omega arith) in
    rw (front, back, tail)

pub blocks_one : {T : Type 0} (n : ℕ) (xs : List T) → 0 < n → length xs ≡ n → blocks n xs ≡ xs ∷ []
blocks_one n xs some e =
    let rest = blocks_short n (drop n xs) (omega (arith, length-drop n xs)) in
    let whole = ap (λ k. take k xs) (sym e) ∙ take-length xs in
    blocks_cons n xs some (omega arith) ∙ rw (rest, whole)

first_chunks-at : {T : Type 0} (n k : ℕ) (xs : List T) (i : ℕ) (d : List T) → i < k → get_or (first_chunks n k xs) i d ≡ take n (drop (i * n) xs)
first_chunks-at n (suc k) xs zero d h = let e : 0 * n ≡ 0 = omega arith in rw e
first_chunks-at n (suc k) xs (suc i) d h =
    let less : i < k = omega arith in
    let at = drop-drop _ n xs ∙ ap (λ x. drop x xs) (add_comm n _ ∙ sym (suc-mul i n)) in
    first_chunks-at n k _ i d less ∙ ap (take n) at
first_chunks-at n _ xs i d h = absurd (omega arith)

pub blocks_at : {T : Type 0} (n : ℕ) (xs : List T) (i : ℕ) (d : List T) → i < length xs / n → get_or (blocks n xs) i d ≡ take n (drop (i * n) xs)
unfolding blocks
blocks_at n xs i d h = first_chunks-at n _ xs i d h

-- block i lies within the list
pub block_within : {T : Type 0} (n : ℕ) (xs : List T) (i : ℕ) → i < length xs / n → i * n + n ≤ length xs
block_within n xs i h = omega (arith, mul-le-mul_right n h, div-mul-le_self (length xs) n, suc-mul i n)

joined_first : {T : Type 0} (n k : ℕ) (xs : List T) → k * n ≡ length xs → joined (first_chunks n k xs) ≡ xs
joined_first n zero [] e = refl
joined_first n zero (x ∷ xs) e = absurd (omega arith)
joined_first n (suc k) xs e =
    let up = suc-mul k n in
    let rest = joined_first n k (drop n xs) (omega (arith, length-drop n xs)) in
    rw (rest, take-append-drop) refl

pub joined_blocks : {T : Type 0} (n : ℕ) (xs : List T) → length xs % n ≡ 0 → xs ≡ joined (blocks n xs)
unfolding blocks
joined_blocks n xs e = sym (joined_first n _ xs (omega (arith, mod-add-div' (length xs) n)))

pub whole_blocks : {T : Type 0} (n : ℕ) (xs : List T) → length (take (length xs / n * n) xs) % n ≡ 0
whole_blocks n xs = ap (λ k. k % n) (length-take-le (length xs / n * n) xs (div-mul-le_self (length xs) n)) ∙ mul-mod_left (length xs / n) n

pub whole_one : {T : Type 0} (n : ℕ) (xs : List T) → length xs ≡ n → length xs % n ≡ 0
whole_one n xs e = ap (λ k. k % n) e ∙ mod_self n

-- the first `mid` blocks lie within the list
pub blocks_fit : {T : Type 0} (n mid : ℕ) (xs : List T) → mid ≤ length (blocks n xs) → mid * n ≤ length xs
blocks_fit n mid xs within =
    let few : mid ≤ length xs / n = omega (arith, length_blocks n xs) in
    omega (arith, mul-le-mul_right n few, div-mul-le_self (length xs) n)

pub whole_front : {T : Type 0} (n mid : ℕ) (xs : List T) → mid * n ≤ length xs → length (take (mid * n) xs) % n ≡ 0
whole_front n mid xs fits = ap (λ k. k % n) (length-take-le (mid * n) xs fits) ∙ mul-mod_left mid n

pub whole_back : {T : Type 0} (n mid : ℕ) (xs : List T) → mid * n ≤ length xs → length xs % n ≡ 0 → length (drop (mid * n) xs) % n ≡ 0
whole_back n mid xs fits whole =
    let all : length (drop (mid * n) xs) + mid * n ≡ length xs = omega (arith, length-drop (mid * n) xs) in
    sym (add-mul-mod_self_right (length (drop (mid * n) xs)) mid n) ∙ ap (λ k. k % n) all ∙ whole

take-first_chunks : {T : Type 0} (n m k : ℕ) (xs : List T) → m ≤ k → take m (first_chunks n k xs) ≡ first_chunks n m xs
take-first_chunks n zero k xs h = refl
take-first_chunks n (suc m) (suc k) xs h = ap (λ cs. take n xs ∷ cs) (take-first_chunks n m k _ (omega arith))
take-first_chunks n _ _ xs h = absurd (omega arith)

count_of : (n mid len : ℕ) → mid ≤ len / n → mid * n / n ≡ mid
count_of zero mid len h = div-zero _ ∙ omega (arith, div-zero len)
count_of (suc n) mid len h = mul-div_cancel mid (omega arith)

-- the first `mid` blocks
pub blocks_front : {T : Type 0} (n mid : ℕ) (xs : List T) → mid ≤ length (blocks n xs) → blocks n (take (mid * n) xs) ≡ take mid (blocks n xs)
unfolding blocks
blocks_front n mid xs within =
    let few : mid ≤ length xs / n = omega (arith, length_blocks n xs) in
    let count = ap (λ k. k / n) (length-take-le _ xs (blocks_fit n mid xs within)) ∙ count_of n mid _ few in
    ap (λ k. first_chunks n k (take (mid * n) xs)) count ∙ first_chunks-take n mid _ xs (omega arith) ∙ sym (take-first_chunks n mid _ xs few)

pub blocks_take : {T : Type 0} (n : ℕ) (xs : List T) → blocks n (take (length xs / n * n) xs) ≡ blocks n xs
blocks_take n xs =
    let size = length_blocks n xs in
    blocks_front n _ xs (omega arith) ∙ take_all _ (blocks n xs) (omega arith)

-- where there is a block, it has items, and the list has them
one_block : (n k len : ℕ) → suc k ≤ len / n → (0 < n) × (n ≤ len)
one_block zero k len some = absurd (omega (arith, div-zero len))
one_block (suc n) k len some =
    (omega arith, omega (arith, mul-le-mul_right (suc n) some, div-mul-le_self len (suc n), suc-mul k (suc n)))

-- and those after them
pub blocks_back : {T : Type 0} (n mid : ℕ) (xs : List T) → mid ≤ length (blocks n xs) → blocks n (drop (mid * n) xs) ≡ drop mid (blocks n xs)
blocks_back n zero xs within = let none : 0 * n ≡ 0 = omega arith in rw none refl
blocks_back n (suc mid) xs within =
    let some : suc mid ≤ length xs / n = omega (arith, length_blocks n xs) in
    let one = one_block n mid _ some in
    let cons = blocks_cons n xs one.0 one.1 in
    let less : mid ≤ length (blocks n (drop n xs)) = omega (arith, ap length cons) in
    let at = ap (λ x. drop x xs) (suc-mul mid n ∙ add_comm _ n) ∙ sym (drop-drop (mid * n) n xs) in
    rw (at, cons) (blocks_back n mid _ less)

-- the next part of at most `size` items is whole blocks, where `size` is and the items are
pub whole_part : (n size len : ℕ) → (0 < n → size % n ≡ 0) → len % n ≡ 0 → min size len % n ≡ 0
whole_part zero size len whole all = let none : min size len ≡ 0 = omega (arith, sym (mod-zero len) ∙ all) in ap (λ k. k % 0) none ∙ zero-mod 0
whole_part (suc n) size len whole all =
    elim (cases_lt size len) [
      | inl less ↦ let e : min size len ≡ size = omega arith in ap (λ k. k % suc n) e ∙ whole (omega arith)
      | inr more ↦ let e : min size len ≡ len = omega arith in ap (λ k. k % suc n) e ∙ all
    ]

-- and so is what it leaves
pub whole_rest : (n size len : ℕ) → (0 < n → size % n ≡ 0) → len % n ≡ 0 → (len - min size len) % n ≡ 0
whole_rest n size len whole all =
    let part = whole_part n size len whole all in
    let both : len - min size len + min size len ≡ len = omega arith in
    (rw (part, add-zero, both) at (add-mod-mod (len - min size len) (min size len) n)) ∙ all

-- what an iterator over such parts has left is whole blocks
pub whole_left : {T : Type 0} (n size : ℕ) (xs rest : List T) (r : Option (MutBor (List T)))
    → MatchOption r ((length xs ≡ 0) × (length rest ≡ 0)) (λ x. (xs ≡ x.now ++ rest) × (length x.now ≡ min size (length xs)) × (0 < length xs))
    → (0 < n → size % n ≡ 0) → length xs % n ≡ 0 → length rest % n ≡ 0
whole_left n size xs rest None h whole all = ap (λ k. k % n) h.1 ∙ zero-mod n
whole_left n size xs rest (Some x) h whole all =
    let left : length rest ≡ length xs - min size (length xs) = omega (arith, ap length h.0, length-append x.now rest) in
    ap (λ k. k % n) left ∙ whole_rest n size _ whole all

-- k blocks of n items are whole blocks, and at least one item
pub whole_size : (k n : ℕ) → 0 < k → 0 < n → max (k * n) 1 % n ≡ 0
whole_size k n some items =
    let up = mul-le-mul_right n some in
    let e : max (k * n) 1 ≡ k * n = omega arith in
    ap (λ m. m % n) e ∙ mul-mod_left k n
