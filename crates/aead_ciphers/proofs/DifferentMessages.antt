-- Messages that differ have hashed lists that differ when padded.
use Rattle.std.proofs.Common.{◌≡◌, ℕ, ◌+◌, ◌-◌, ◌*◌, ◌/◌, ◌%◌, ◌^◌, ◌<◌, List, [], ◌∷◌, ◌++◌, length, take, drop, get_or, replicate, refl, sym, ap, ap₂, ◌∙◌, arith, length-append, append_assoc, drop_at, ext_get_or, take_at}
use Rattle.std.specs.Int.{from_be_bytes, to_be_bytes, w64}
use Rattle.std.proofs.lemmas.Nat.{from_be_bytes-to_be_bytes_8}
use Rattle.aead_ciphers.specs
use specs.Bytes.{zero_block}
use Rattle.aead_ciphers_base.proofs.EachLemmas.{get_or-each}
use specs.Different.{DifferWhenPadded, zeros_before}
use specs.Gcm.{Fits, hashed, length_block, padded_block, padded_blocks, sealing_products}
use Rattle.aead_ciphers.proofs.TagInput.{count_hashed, length-padded_blocks}

-- equal lists, cut at one place
same_parts : {X : Type 0} (xs ys us vs : List X) → length xs ≡ length us → xs ++ ys ≡ us ++ vs → (xs ≡ us) × (ys ≡ vs)
same_parts xs ys us vs e h =
    let n = length us in (
      sym (take_at xs ys n e) ∙ ap (take n) h ∙ take_at us vs n refl,
      sym (drop_at xs ys n e) ∙ ap (drop n) h ∙ drop_at us vs n refl,
    )

same_last : (xs ys : List (List ℕ)) (x y : List ℕ) → xs ++ x ∷ [] ≡ ys ++ y ∷ [] → x ≡ y
same_last xs ys x y e =
    let lengths = sym (length-append xs _) ∙ ap length e ∙ length-append ys _ in
    ap (λ bs. get_or bs 0 []) (same_parts xs _ ys _ (omega arith) e).1

-- bytes from their padded blocks
byte_back : (xs : List ℕ) (k : ℕ) → k < length xs → get_or (get_or (padded_blocks xs) (k / 16) []) (k % 16) 0 ≡ get_or xs k 0
unfolding padded_blocks padded_block
byte_back xs k below =
    ap (λ b. get_or b (k % 16) 0) (get_or-each ((length xs + 15) / 16) (padded_block xs) _ [] (omega arith))
    ∙ get_or-each 16 (λ (j : ℕ). get_or xs (16 * (k / 16) + j) 0) (k % 16) 0 (omega arith)
    ∙ ap (λ j. get_or xs j 0) (omega arith)

same_bytes : (xs ys : List ℕ) → length xs ≡ length ys → padded_blocks xs ≡ padded_blocks ys → xs ≡ ys
same_bytes xs ys e h =
    ext_get_or 0 xs ys e (λ k below.
    sym (byte_back xs k below)
    ∙ ap (λ bs. get_or (get_or bs (k / 16) []) (k % 16) 0) h
    ∙ byte_back ys k (omega arith))

same_number : (m n : ℕ) → m < 2 ^ 61 → n < 2 ^ 61 → to_be_bytes w64 (8 * m) ≡ to_be_bytes w64 (8 * n) → m ≡ n
same_number m n hm hn e =
    let eight =
    sym (from_be_bytes-to_be_bytes_8 (8 * m) (omega arith)) ∙ ap (from_be_bytes w64) e ∙ from_be_bytes-to_be_bytes_8 _ (omega arith) in
    omega arith

same_lengths : (a n a' n' : ℕ) → Fits a n → Fits a' n' → length_block a n ≡ length_block a' n' → (a ≡ a') × (n ≡ n')
unfolding length_block
same_lengths a n a' n' fits fits' e =
    let halves = same_parts _ _ _ _ refl e in
    (same_number a a' fits.aad fits'.aad halves.0, same_number n n' (omega (arith, fits.message)) (omega (arith, fits'.message)) halves.1)

same_messages : (a c a' c' : List ℕ) → Fits (length a) (length c) → Fits (length a') (length c') → (n : ℕ) →
    zeros_before n (hashed a c) ≡ zeros_before n (hashed a' c') → (a ≡ a') × (c ≡ c')
unfolding hashed
same_messages a c a' c' fits fits' n e =
    let xs = padded_blocks a in
    let ys = padded_blocks c in
    let xs' = padded_blocks a' in
    let ys' = padded_blocks c' in
    let last = length_block (length a) (length c) in
    let last' = length_block (length a') (length c') in
    let zeros = replicate (n - length (hashed a c)) zero_block in
    let zeros' = replicate (n - length (hashed a' c')) zero_block in
    let ends = same_last (zeros ++ (xs ++ ys)) (zeros' ++ (xs' ++ ys')) last last'
    (append_assoc zeros (xs ++ ys) (last ∷ []) ∙ e ∙ sym (append_assoc zeros' (xs' ++ ys') (last' ∷ []))) in
    let lengths = same_lengths _ _ _ _ fits fits' ends in
    let all =
    count_hashed a c ∙ ap₂ sealing_products lengths.0 lengths.1 ∙ sym (count_hashed a' c') in
    let count : length (xs ++ ys) ≡ length (xs' ++ ys') =
    omega (arith, all, length-append (xs ++ ys) (last ∷ []), length-append (xs' ++ ys') (last' ∷ [])) in
    let lists = same_parts zeros _ zeros' _ (ap (λ k. length (replicate (n - k) zero_block)) all) e in
    let bodies = same_parts _ _ _ _ count lists.1 in
    let both = same_parts xs ys xs' ys' (length-padded_blocks a ∙ ap (λ k. (k + 15) / 16) lengths.0 ∙ sym (length-padded_blocks a')) bodies.0 in
    (same_bytes a a' lengths.0 both.0, same_bytes c c' lengths.1 both.1)

pub different_messages : (a c a' c' : List ℕ) → Fits (length a) (length c) → Fits (length a') (length c') →
    ¬ ((a ≡ a') × (c ≡ c')) → DifferWhenPadded (hashed a c) (hashed a' c')
different_messages a c a' c' fits fits' differ e =
    differ (same_messages a c a' c' fits fits' _ e)
