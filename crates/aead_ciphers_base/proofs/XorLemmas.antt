-- The XOR of two lists of bytes.
use Rattle.std.proofs
use proofs.Common.{◌≡◌, ℕ, zero, suc, ◌<◌, ◌≤◌, List, [], ◌∷◌, ◌++◌, length, get_or, take, replicate, All, bit_xor, refl, sym, ap, ap₂, ◌∙◌, arith}
use proofs.lemmas.List.FromFn.{fill_by_all}
use proofs.lemmas.Nat.{xor_lt, xor_comm as number_comm}
use Rattle.std.specs.Int.Bits.{xor_assoc as number_assoc, xor_self, xor_zero_r}
use Rattle.aead_ciphers_base.specs.Bytes.{each_below, ◌⊕◌}

pub length-xor : (xs ys : List ℕ) → length xs ≤ length ys → length (xs ⊕ ys) ≡ length xs
length-xor [] ys h = refl
length-xor (x ∷ xs) (y ∷ ys) h = ap suc (length-xor xs ys (omega arith))
length-xor _ _ h = absurd (omega arith)

get_or-xor : (xs ys : List ℕ) (i : ℕ) → i < length xs → i < length ys → get_or (xs ⊕ ys) i 0 ≡ bit_xor (get_or xs i 0) (get_or ys i 0)
get_or-xor (x ∷ xs) (y ∷ ys) zero h j = refl
get_or-xor (x ∷ xs) (y ∷ ys) (suc i) h j = get_or-xor xs ys i (omega arith) (omega arith)
get_or-xor _ ys i h j = absurd (omega arith)

pub xor_by_index : (xs ys : List ℕ) (n : ℕ) → length xs ≡ n → length ys ≡ n → xs ⊕ ys ≡ each_below n (λ i. bit_xor (get_or xs i 0) (get_or ys i 0))
xor_by_index xs ys n h j =
    fill_by_all (λ i. bit_xor (get_or xs i 0) (get_or ys i 0)) _ n 0 (length-xor xs ys (omega arith) ∙ h)
    (λ i lt. get_or-xor xs ys i (omega arith) (omega arith))

pub xor_comm : (xs ys : List ℕ) → xs ⊕ ys ≡ ys ⊕ xs
xor_comm [] [] = refl
xor_comm [] (y ∷ ys) = refl
xor_comm (x ∷ xs) [] = refl
xor_comm (x ∷ xs) (y ∷ ys) = ap₂ (λ (z : ℕ) (zs : List ℕ). z ∷ zs) (number_comm x y) (xor_comm xs ys)

pub xor_assoc : (a b c : List ℕ) → (a ⊕ b) ⊕ c ≡ a ⊕ (b ⊕ c)
xor_assoc [] b c = refl
xor_assoc (x ∷ xs) [] c = refl
xor_assoc (x ∷ xs) (y ∷ ys) [] = refl
xor_assoc (x ∷ xs) (y ∷ ys) (z ∷ zs) = ap₂ (λ (n : ℕ) (ns : List ℕ). n ∷ ns) (number_assoc x y z) (xor_assoc xs ys zs)

-- two sums of two, by the first and by the second of each
pub xor_exchange : (a b c d : List ℕ) → (a ⊕ b) ⊕ (c ⊕ d) ≡ (a ⊕ c) ⊕ (b ⊕ d)
xor_exchange a b c d =
    xor_assoc a b _
    ∙ ap (λ x. a ⊕ x) (sym (xor_assoc b c d) ∙ ap (λ x. x ⊕ d) (xor_comm b c) ∙ xor_assoc c b d)
    ∙ sym (xor_assoc a c _)

pub xor_zeros : (a : List ℕ) (n : ℕ) → length a ≡ n → a ⊕ replicate n 0 ≡ a
xor_zeros [] n e = refl
xor_zeros (x ∷ xs) (suc n) e = ap₂ (λ (z : ℕ) (zs : List ℕ). z ∷ zs) (xor_zero_r x) (xor_zeros xs n (omega arith))
xor_zeros _ _ e = absurd (omega arith)

pub bytes-xor : (a b : List ℕ) → All (λ x. x < 256) a → All (λ x. x < 256) b → All (λ x. x < 256) (a ⊕ b)
bytes-xor (x ∷ xs) (y ∷ ys) h j zero d below = xor_lt 8 x y (h 0 x (omega arith)) (j 0 y (omega arith))
bytes-xor (x ∷ xs) (y ∷ ys) h j (suc k) d below =
    bytes-xor xs ys (λ i e l. h (suc i) e (omega arith)) (λ i e l. j (suc i) e (omega arith)) k d (omega arith)
bytes-xor _ b h j k d below = absurd (omega arith)

-- what is longer in the second list counts for nothing
pub xor-take : (xs ys : List ℕ) → xs ⊕ take (length xs) ys ≡ xs ⊕ ys
xor-take [] ys = refl
xor-take (x ∷ xs) [] = refl
xor-take (x ∷ xs) (y ∷ ys) = ap (λ zs. bit_xor x y ∷ zs) (xor-take xs ys)

pub xor-append : (xs ys us vs : List ℕ) → length xs ≡ length us → (xs ++ ys) ⊕ (us ++ vs) ≡ (xs ⊕ us) ++ (ys ⊕ vs)
xor-append [] ys [] vs h = refl
xor-append (x ∷ xs) ys (u ∷ us) vs h = ap (λ zs. bit_xor x u ∷ zs) (xor-append xs ys us vs (omega arith))
xor-append _ ys _ vs h = absurd (omega arith)

-- XOR twice
pub xor-xor : (xs ys : List ℕ) → length xs ≤ length ys → (xs ⊕ ys) ⊕ ys ≡ xs
xor-xor [] ys h = refl
xor-xor (x ∷ xs) (y ∷ ys) h =
    ap₂ (λ (z : ℕ) (zs : List ℕ). z ∷ zs)
    (number_assoc x y y ∙ ap (λ v. bit_xor x v) (xor_self y) ∙ xor_zero_r x) (xor-xor xs ys (omega arith))
xor-xor _ _ h = absurd (omega arith)
