-- Lists made by index, and cuts of lists.
use Rattle.std.proofs.Common.{◌≡◌, ℕ, zero, suc, ◌+◌, ◌<◌, List, [], ◌∷◌, ◌++◌, length, get_or, sym, ap, ◌∙◌, arith, append_assoc, append-nil}
use Rattle.std.proofs.lemmas.List.FromFn.{length-map-range_with_len, get_or-map-range_with_len, map-range_with_len_more, fill_by_all}
use Rattle.aead_ciphers_base.specs.Bytes.{each_below}

pub length-each : {X : Type 0} (n : ℕ) (f : ℕ → X) → length (each_below n f) ≡ n
length-each n f = length-map-range_with_len f 0 n

pub get_or-each : {X : Type 0} (n : ℕ) (f : ℕ → X) (i : ℕ) (d : X) → i < n → get_or (each_below n f) i d ≡ f i
get_or-each n f i d h = get_or-map-range_with_len f 0 n i i d h (omega arith)

pub each-same : {X : Type 0} (n : ℕ) (f g : ℕ → X) → ((i : ℕ) → i < n → f i ≡ g i) → each_below n f ≡ each_below n g
each-same n f g h = fill_by_all g (each_below n f) n (f 0) (length-each n f) (λ i lt. get_or-each n f i (f 0) lt ∙ h i lt)

pub each-append : {X : Type 0} (m n : ℕ) (f : ℕ → X) → each_below (m + n) f ≡ each_below m f ++ each_below n (λ i. f (m + i))
each-append m zero f = ap (λ k. each_below k f) (let e : m + 0 ≡ m = omega arith in e)
    ∙ sym (append-nil (each_below m f))
each-append m (suc n) f =
    let e : m + suc n ≡ m + n + 1 = omega arith in
    let e' : n + 1 ≡ suc n = omega arith in
    ap (λ k. each_below k f) e
    ∙ map-range_with_len_more f 0 _ (m + n) (omega arith)
    ∙ ap (λ (xs : List _). xs ++ f (m + n) ∷ []) (each-append m n f)
    ∙ append_assoc _ (each_below n (λ i. f _)) _
    ∙ ap (λ (xs : List _). each_below m f ++ xs)
    (sym (map-range_with_len_more (λ (i : ℕ). f _) 0 n n (omega arith)) ∙ ap (λ k. each_below k (λ i. f (m + i))) e')
