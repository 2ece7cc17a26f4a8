-- A polynomial over blocks that isn't zero has few roots: where the differences of as many blocks as it has coefficients have
-- inverses, one is no root. For one with as many roots as coefficients is zero, since dividing out a root removes a coefficient.
-- GHASH is a polynomial in the hash subkey, with the blocks as coefficients. So two lists of blocks that differ when padded have
-- GHASHes with a given XOR under few hash subkeys, and few hash subkeys accept two messages that differ.
use Rattle.std.proofs.Common.{◌≡◌, ℕ, suc, ◌+◌, ◌<◌, ◌≤◌, List, [], ◌∷◌, length, get_or, AllPairs, refl, sym, ap, ap₂, ◌∙◌, arith, zero, ◌-◌, ⊎_elim, max, ◌++◌, replicate, reverse, All, subst, length-append, ◌≢◌}
use Rattle.std.specs.List.{AllByRecursion}
use Rattle.aead_ciphers_base.proofs.XorLemmas.{xor_assoc, xor_comm, xor_exchange}
use Rattle.aead_ciphers.specs
use specs.Bytes.{◌⊕◌, zero_block}
use specs.Different.{HasInverse, DifferWhenPadded, zeros_before, masked_tag}
use specs.Ghash.{◌•◌, IsBlock, ghash, power, xor_blocks}
use Rattle.aead_ciphers.proofs
use proofs.GhashLaws.{IsBlock-zero, cancel_factor, cancel_left, product_zero, same_of_xor, xor_self, Sized, Sized-product, Sized-xor, product_left_swap, product_xor_left, product_xor_right, xor_zero, IsBlock-xor, Sized-ghash, Sized-power, ghash_xor, length-xor_blocks, product_comm, IsBlock-value, value_at, ghash_value}
use proofs.PaddedBlocks.{Blocks, AllSized-blocks, Each-reverse}
use Rattle.std.proofs.lemmas
use lemmas.Bool.{cases_lt}
use lemmas.List.{length-replicate, length-reverse, reverse-reverse}
use lemmas.List.Elements.{recursion_from_All}
use specs.Gcm.{Fits, hashed, sealing_products}
use proofs.BlockInverse.{has_inverse}
use proofs.DifferentMessages.{different_messages}
use proofs.TagInput.{Blocks-hashed, Bytes, count_hashed}

-- ---- roots

-- each of the list is the zero block
abbrev pub Zeros : List (List ℕ) → Type 0
Zeros cs = AllByRecursion (λ c. c ≡ zero_block) cs

-- the quotient of the polynomial with coefficients c, cs by the difference to r is without_root r cs: the value at r of each tail
abbrev without_root : List ℕ → List (List ℕ) → List (List ℕ)
without_root r [] = []
without_root r (c ∷ cs) = value_at r (c ∷ cs) ∷ without_root r cs

length-without_root : (r : List ℕ) (cs : List (List ℕ)) → length (without_root r cs) ≡ length cs
length-without_root r [] = refl
length-without_root r (c ∷ cs) = ap suc (length-without_root r cs)

Blocks-without_root : (r : List ℕ) (cs : List (List ℕ)) → Blocks cs → Blocks (without_root r cs)
Blocks-without_root r [] all = tt
Blocks-without_root r (c ∷ cs) all = (IsBlock-value r (c ∷ cs) all, Blocks-without_root r cs all.1)

module _ (r h : List ℕ) (sr : Sized r) (sh : Sized h) where
  divided : (cs : List (List ℕ)) → Blocks cs → (r ⊕ h) • value_at h (without_root r cs) ≡ r • value_at r cs ⊕ h • value_at h cs
  divided [] all = product_zero _ (Sized-xor r h sr sh) ∙ sym (ap₂ ◌⊕◌ (product_zero r sr) (product_zero h sh))
  divided (c ∷ cs) all =
      let d = r ⊕ h in
      let v = h • value_at h cs in
      let w = r • value_at r cs in
      let t = c ⊕ w in
      let q = value_at h (without_root r cs) in
      let sd = Sized-xor r h sr sh in
      let sv = Sized-product h (value_at h cs) in
      let sw = Sized-product r _ in
      let st = Sized-xor c w all.0.size sw in
      let sq = (IsBlock-value h _ (Blocks-without_root r cs all.1)).size in
      let same =
      ap (λ x. t ⊕ x) (xor_comm w v) ∙ xor_exchange c w v w
      ∙ ap (λ x. (c ⊕ v) ⊕ x) (xor_self w sw) ∙ xor_zero _ (Sized-xor c v all.0.size sv) in
      product_xor_right d t _ sd st (Sized-product h q)
      ∙ ap₂ ◌⊕◌ (product_xor_left r h t sr sh st) (product_left_swap d h q sd sh sq ∙ ap (λ x. h • x) (divided cs all.1))
      ∙ xor_assoc _ _ _
      ∙ ap (λ x. r • t ⊕ x) (sym (product_xor_right h t _ sh st (Sized-xor w v sw sv)) ∙ ap (λ x. h • x) same)

  -- another root of the polynomial is one of what is left without r
  root_stays : (c : List ℕ) (cs : List (List ℕ)) → Blocks (c ∷ cs) → HasInverse (r ⊕ h) →
      value_at r (c ∷ cs) ≡ zero_block → value_at h (c ∷ cs) ≡ zero_block → value_at h (without_root r cs) ≡ zero_block
  root_stays c cs all apart at_r at_h =
      let v = h • value_at h cs in
      let w = r • value_at r cs in
      let sd = Sized-xor r h sr sh in
      let sv = Sized-product h _ in
      let same = cancel_left w v c (Sized-product r _) sv all.0.size (at_r ∙ sym at_h) in
      let is_q = IsBlock-value h _ (Blocks-without_root r cs all.1) in
      cancel_factor _ _ zero_block sd apart is_q IsBlock-zero
      (divided cs all.1 ∙ ap (λ x. x ⊕ v) same ∙ xor_self v sv ∙ sym (product_zero (r ⊕ h) sd))

value-zeros : (h : List ℕ) (cs : List (List ℕ)) → Sized h → Zeros cs → value_at h cs ≡ zero_block
value-zeros h [] sh z = refl
value-zeros h (c ∷ cs) sh z =
    ap₂ (λ x y. x ⊕ h • y) z.0 (value-zeros h cs sh z.1) ∙ ap (λ x. zero_block ⊕ x) (product_zero h sh)

zeros_back : (r : List ℕ) (cs : List (List ℕ)) → Sized r → Blocks cs → Zeros (without_root r cs) → Zeros cs
zeros_back r [] sr all z = tt
zeros_back r (c ∷ cs) sr all z =
    let zs = zeros_back r cs sr all.1 z.1 in
    let first = same_of_xor c _ all.0.size (Sized-product r _) z.0 in
    (first ∙ ap (λ x. r • x) (value-zeros r cs sr zs) ∙ product_zero r sr, zs)

-- the blocks at all places of the list
abbrev pub EachAt : (List ℕ → Type 0) → List (List ℕ) → Type 0
EachAt P hs = (i : ℕ) → i < length hs → P (get_or hs i [])

pub all_zero : (hs cs : List (List ℕ)) → length cs ≤ length hs → EachAt Sized hs → Blocks cs →
    AllPairs (λ h k. HasInverse (h ⊕ k)) hs → EachAt (λ h. value_at h cs ≡ zero_block) hs → Zeros cs
all_zero hs [] fits sized all apart roots = tt
all_zero (r ∷ rs) (c ∷ cs) fits sized all apart roots =
    let sr = sized 0 (omega arith) in
    let root = roots 0 (omega arith) in
    let count = length-without_root r cs in
    let stays : EachAt (λ h. value_at h (without_root r cs) ≡ zero_block) rs =
    λ i below.
    root_stays r _ sr (sized (suc i) (omega arith)) c cs all
    (apart 0 (suc i) [] (omega arith) (omega arith)) root (roots (suc i) (omega arith)) in
    zeros_back r (c ∷ cs) sr all (
      root,
      all_zero rs _ (omega arith) (λ i below. sized (suc i) (omega arith)) (Blocks-without_root r cs all.1)
          (λ i j d before below. apart (suc i) (suc j) d (omega arith) (omega arith)) stays,
    )
all_zero _ _ fits sized all apart roots = absurd (omega arith)

-- ---- zero blocks at the front

Blocks-zeros : (n : ℕ) (xs : List (List ℕ)) → Blocks xs → Blocks (replicate n zero_block ++ xs)
Blocks-zeros zero xs all = all
Blocks-zeros (suc n) xs all = (IsBlock-zero, Blocks-zeros n xs all)

ghash-zeros : (h : List ℕ) (n : ℕ) (xs : List (List ℕ)) → Sized h → Blocks xs → ghash h (replicate n zero_block ++ xs) ≡ ghash h xs
unfolding ghash
ghash-zeros h zero xs sh all = refl
ghash-zeros h (suc n) xs sh all =
    let k = length (replicate n zero_block ++ xs) + 1 in
    let p = power h k in
    let sp = Sized-power h k sh in
    ap₂ ◌⊕◌ (product_comm zero_block p refl sp ∙ product_zero p sp) (ghash-zeros h n xs sh all)
    ∙ xor_comm zero_block _ ∙ xor_zero _ (Sized-ghash h xs sh (AllSized-blocks xs all))

length-zeros_before : (n : ℕ) (xs : List (List ℕ)) → length xs ≤ n → length (zeros_before n xs) ≡ n
length-zeros_before n xs h =
    length-append _ xs ∙ (let e = length-replicate (n - length xs) zero_block in omega arith)

-- ---- the XOR of two lists

Blocks-xor : (xs ys : List (List ℕ)) → Blocks xs → Blocks ys → Blocks (xor_blocks xs ys)
Blocks-xor [] ys h j = tt
Blocks-xor (x ∷ xs) [] h j = tt
Blocks-xor (x ∷ xs) (y ∷ ys) h j = (IsBlock-xor x y h.0 j.0, Blocks-xor xs ys h.1 j.1)

same_lists : (xs ys : List (List ℕ)) → length xs ≡ length ys → Blocks xs → Blocks ys → Zeros (xor_blocks xs ys) → xs ≡ ys
same_lists [] [] e h j z = refl
same_lists (x ∷ xs) (y ∷ ys) e h j z =
    ap₂ (λ u us. u ∷ us) (same_of_xor x y h.0.size j.0.size z.0) (same_lists xs ys (omega arith) h.1 j.1 z.1)
same_lists _ _ e h j z = absurd (omega arith)

-- ---- the law

pub few_keys : (left right : List (List ℕ)) (sum : List ℕ) (keys : List (List ℕ)) → Blocks left → Blocks right → IsBlock sum → EachAt Sized keys →
    DifferWhenPadded left right → AllPairs (λ h k. HasInverse (h ⊕ k)) keys → All (λ h. ghash h left ⊕ ghash h right ≡ sum) keys →
    length keys ≤ max (length left) (length right)
few_keys left right sum keys is_left is_right is_sum sized differ apart each =
    let n = max (length left) (length right) in
    let us = zeros_before n left in
    let vs = zeros_before n right in
    let all_u = Blocks-zeros (n - length left) left is_left in
    let all_v = Blocks-zeros (n - length right) right is_right in
    let long = length-zeros_before n left (omega arith) in
    let same = long ∙ sym (length-zeros_before n right (omega arith)) in
    let ds = xor_blocks us vs in
    let all_d = Blocks-xor us vs all_u all_v in
    let root : EachAt (λ h. value_at h (sum ∷ reverse ds) ≡ zero_block) keys =
    λ i below.
    let h = get_or keys i [] in
    let sh = sized i below in
    ap (λ x. sum ⊕ x)
    (sym (ghash_value h ds sh all_d) ∙ ghash_xor h us vs sh (AllSized-blocks us all_u) (AllSized-blocks vs all_v) same
    ∙ ap₂ ◌⊕◌ (ghash-zeros h _ left sh is_left) (ghash-zeros h _ right sh is_right)
    ∙ each i [] below)
    ∙ xor_self sum is_sum.size in
    ⊎_elim
    (λ (many : n < length keys).
    let count = length-reverse ds ∙ length-xor_blocks us vs same ∙ long in
    let zeros = all_zero keys (sum ∷ reverse ds) (omega arith) sized (is_sum, Each-reverse IsBlock ds all_d) apart root in
    let none : Zeros ds = subst Zeros (reverse-reverse ds) (Each-reverse (λ c. c ≡ zero_block) _ zeros.1) in
    absurd (differ (same_lists us vs same all_u all_v none)))
    (λ (few : length keys ≤ n). few)
    (cases_lt n _)

pub few_hash_keys : (left right : List (List ℕ)) (sum : List ℕ) (keys : List (List ℕ)) →
    All IsBlock left → All IsBlock right → IsBlock sum → EachAt Sized keys →
    DifferWhenPadded left right → AllPairs (λ h k. HasInverse (h ⊕ k)) keys → All (λ h. ghash h left ⊕ ghash h right ≡ sum) keys →
    length keys ≤ max (length left) (length right)
few_hash_keys left right sum keys is_left is_right =
    few_keys left right sum keys (recursion_from_All IsBlock left is_left) (recursion_from_All IsBlock right is_right)

-- ---- the tags of two messages

-- one mask falls out of the XOR of two tags
unmasked : (x y mask : List ℕ) → Sized x → Sized y → Sized mask → x ⊕ y ≡ (x ⊕ mask) ⊕ (y ⊕ mask)
unmasked x y mask sx sy sm =
    sym (xor_exchange x mask y mask ∙ ap (λ z. (x ⊕ y) ⊕ z) (xor_self mask sm) ∙ xor_zero _ (Sized-xor x y sx sy))

pub few_subkeys : (a c tag a' c' tag' : List ℕ) (keys : List (List ℕ)) → Bytes a → Bytes c → Bytes a' → Bytes c' →
    Fits (length a) (length c) → Fits (length a') (length c') → IsBlock tag → IsBlock tag' → All IsBlock keys →
    ¬ ((a ≡ a') × (c ≡ c')) → AllPairs (λ h k. h ≢ k) keys →
    All (λ h. (mask : List ℕ) × IsBlock mask × (tag ≡ masked_tag h mask a c) × (tag' ≡ masked_tag h mask a' c')) keys →
    length keys ≤ max (sealing_products (length a) (length c)) (sealing_products (length a') (length c'))
few_subkeys a c tag a' c' tag' keys ha hc ha' hc' fits fits' is_tag is_tag' is_keys differ distinct each =
    let xs = hashed a c in
    let ys = hashed a' c' in
    let all_x = Blocks-hashed a c ha hc in
    let all_y = Blocks-hashed a' c' ha' hc' in
    let apart : AllPairs (λ h k. HasInverse (h ⊕ k)) keys =
    λ i j d before below.
    let h = get_or keys i d in
    let k = get_or keys j d in
    let is_h = is_keys i d (omega arith) in
    let is_k = is_keys j d below in
    has_inverse _ (IsBlock-xor h k is_h is_k) (λ e. distinct i j d before below (same_of_xor h k is_h.size is_k.size e)) in
    let same : All (λ h. ghash h xs ⊕ ghash h ys ≡ tag ⊕ tag') keys =
    λ i d below.
    let h = get_or keys i d in
    let sh = (is_keys i d below).size in
    let m = each i d below in
    let sx = Sized-ghash h xs sh (AllSized-blocks xs all_x) in
    let sy = Sized-ghash h ys sh (AllSized-blocks ys all_y) in
    unmasked _ _ m.0 sx sy m.1.size ∙ sym (ap₂ ◌⊕◌ m.2 m.3) in
    subst (λ n. length keys ≤ n) (ap₂ max (count_hashed a c) (count_hashed a' c'))
    (few_keys xs ys _ keys all_x all_y (IsBlock-xor tag tag' is_tag is_tag') (λ i below. (is_keys i [] below).size)
    (different_messages a c a' c' fits fits' differ) apart same)
