-- One changed block: under a hash subkey that has an inverse the GHASHes differ, and so do the tags.
use Rattle.std.proofs.Common.{◌≡◌, ◌≢◌, ℕ, List, [], ◌∷◌, ◌++◌, reverse, append_assoc, refl, sym, ap, subst, ◌∙◌}
use Rattle.std.proofs.lemmas.List.{reverse-append}
use Rattle.aead_ciphers.specs
use specs.Aes.{add_round_key, aes, cipher}
use specs.Bytes.{◌⊕◌, zero_block}
use specs.Different.{DifferInOneBlock, HasInverse}
use specs.Gcm.{hashed, gcm_tag}
use specs.Ghash.{IsBlock, ◌•◌, ghash}
use Rattle.aead_ciphers.proofs
use proofs.GhashLaws.{IsBlock-zero, cancel_factor, cancel_left, cancel_right, Sized, Sized-ghash, Sized-product, IsBlock-value, ghash_value, value_at}
use proofs.PaddedBlocks.{AllSized-blocks, Blocks, Each-append, Each-parts, Each-reverse}
use proofs.TagInput.{Blocks-hashed, Bytes}

module _ (h : List ℕ) (size : Sized h) (inverse : HasInverse h) where
  -- the coefficients before and after it being the same, a coefficient is known by the value
  same_coefficient : (front back : List (List ℕ)) (x y : List ℕ) → Blocks front → Blocks back → IsBlock x → IsBlock y →
      value_at h (front ++ x ∷ back) ≡ value_at h (front ++ y ∷ back) → x ≡ y
  same_coefficient [] back x y all_f all_b is_x is_y e =
      let product = Sized-product h _ in
      cancel_right x y _ is_x.size is_y.size product e
  same_coefficient (z ∷ front) back x y all_f all_b is_x is_y e =
      let v : List ℕ → List ℕ = λ u. value_at h (front ++ u ∷ back) in
      let is_v : (u : List ℕ) → IsBlock u → IsBlock (v u) =
      λ u is_u. IsBlock-value h (front ++ u ∷ back) (Each-append IsBlock front _ all_f.1 (is_u, all_b)) in
      same_coefficient front back x y all_f.1 all_b is_x is_y
      (cancel_factor h (v x) (v y) size inverse (is_v x is_x) (is_v y is_y)
      (cancel_left (h • v x) _ z (Sized-product h (v x)) (Sized-product h (v y)) all_f.0.size e))

  changed_ghash : (xs ys : List (List ℕ)) → Blocks xs → Blocks ys → DifferInOneBlock xs ys → ghash h xs ≢ ghash h ys
  changed_ghash xs ys all_x all_y d e =
      let left = Each-parts IsBlock d.before (d.left_block ∷ d.after) (subst Blocks d.left_is all_x) in
      let right = Each-parts IsBlock d.before _ (subst Blocks d.right_is all_y) in
      let front = reverse d.after in
      let back = reverse d.before in
      let turned : (u : List ℕ) → reverse (d.before ++ u ∷ d.after) ≡ front ++ u ∷ back =
      λ u.
      reverse-append d.before (u ∷ d.after) ∙ ap (λ us. us ++ back) (reverse-append (u ∷ []) d.after)
      ∙ append_assoc front (u ∷ []) back in
      let value : (us : List (List ℕ)) (u : List ℕ) → Blocks us → us ≡ d.before ++ u ∷ d.after → ghash h us ≡ h • value_at h (front ++ u ∷ back) =
      λ us u all same. ghash_value h us size all ∙ ap (λ cs. h • value_at h cs) (ap reverse same ∙ turned u) in
      d.differ
      (same_coefficient (zero_block ∷ front) back d.left_block d.right_block
      (IsBlock-zero, Each-reverse IsBlock d.after left.1.1) (Each-reverse IsBlock d.before left.0) left.1.0 right.1.0
      (ap (λ u. zero_block ⊕ u) (sym (value xs d.left_block all_x d.left_is) ∙ e ∙ value ys d.right_block all_y d.right_is)))

Sized-aes : (key block : List ℕ) → Sized (aes key block)
unfolding aes cipher add_round_key
Sized-aes key block = refl

pub changed_tag : (key nonce a c a' c' : List ℕ) → Bytes a → Bytes c → Bytes a' → Bytes c' →
    HasInverse (aes key zero_block) → DifferInOneBlock (hashed a c) (hashed a' c') → gcm_tag (aes key) nonce a c ≢ gcm_tag (aes key) nonce a' c'
unfolding gcm_tag
changed_tag key nonce a c a' c' ha hc ha' hc' inverse d e =
    let h = aes key zero_block in
    let size = Sized-aes key zero_block in
    let xs = hashed a c in
    let ys = hashed a' c' in
    let all_x = Blocks-hashed a c ha hc in
    let all_y = Blocks-hashed a' c' ha' hc' in
    changed_ghash h size inverse xs ys all_x all_y d
    (cancel_right (ghash h xs) _ _
    (Sized-ghash h xs size (AllSized-blocks xs all_x)) (Sized-ghash h ys size (AllSized-blocks ys all_y)) (Sized-aes key _) e)
