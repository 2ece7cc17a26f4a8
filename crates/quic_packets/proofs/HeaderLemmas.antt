-- Unmasking undoes masking.
use Rattle.std.proofs
use proofs.Common.{◌≡◌, ℕ, zero, suc, ◌+◌, ◌-◌, ◌<◌, ◌≤◌, ◌⊎◌, inl, inr, Bool, true, false, eqb, cond, List, length, get_or, take, drop, bit_and, bit_xor, length-take-le, length-drop, sym, ap, subst, ◌∙◌, arith, ext_get_or, get_or-drop, get_or-take}
use proofs.lemmas.Bool.{cases_lt}
use proofs.lemmas.Nat.{and_assoc, and_le_r, and_xor_apart}
use Rattle.std.specs.Int.Bits.{and_zero_r, xor_assoc, xor_self, xor_zero_r}
use Rattle.aead_ciphers.specs.HeaderProtection.{HeaderKey, header_protection}
use Rattle.quic_packets.specs.Header.{HasMaskedBytes, HasSample, Masked, Protected, Unprotected, first_mask, mask_of, number_len}

xor_twice : (a b : ℕ) → bit_xor (bit_xor a b) b ≡ a
xor_twice a b = xor_assoc a b b ∙ ap (λ v. bit_xor a v) (xor_self b) ∙ xor_zero_r a

no_form_bit : (long : Bool) (m : ℕ) → bit_and (cond long (bit_and m 0x0f) (bit_and m 0x1f)) 0x80 ≡ 0
no_form_bit true m = and_assoc 0x80 m 0x0f ∙ and_zero_r m
no_form_bit false m = and_assoc 0x80 m 0x1f ∙ and_zero_r m

-- A masked first byte has the same form, and so the same mask.
pub same_form_masked : (first m : ℕ) → bit_and (bit_xor first (first_mask first m)) 0x80 ≡ bit_and first 0x80
same_form_masked first m = and_xor_apart 0x80 first (first_mask first m) (no_form_bit (eqb (bit_and first 0x80) 0x80) m)

same_first_mask : (first m : ℕ) → first_mask (bit_xor first (first_mask first m)) m ≡ first_mask first m
same_first_mask first m =
    ap (λ v. cond (eqb v 0x80) (bit_and m 0x0f) (bit_and m 0x1f)) (same_form_masked first m)

first_back : (mask : List ℕ) (at n n' : ℕ) (old mid new : List ℕ) → Masked mask at n old mid → Masked mask at n' mid new
    → get_or new 0 0 ≡ get_or old 0 0
first_back mask at n n' old mid new p u =
    let m = get_or mask 0 0 in
    u.first ∙ ap (λ v. bit_xor v (first_mask v m)) p.first
    ∙ ap (λ v. bit_xor (bit_xor (get_or old 0 0) (first_mask (get_or old 0 0) m)) v)
    (same_first_mask (get_or old 0 0) m)
    ∙ xor_twice (get_or old 0 0) (first_mask (get_or old 0 0) m)

number_back : (mask : List ℕ) (at n i j : ℕ) (old mid new : List ℕ) → at + j ≡ i → j < n → Masked mask at n old mid → Masked mask at n mid new
    → get_or new i 0 ≡ get_or old i 0
number_back mask at n i j old mid new e h p u =
    let m = get_or mask (j + 1) 0 in
    rw (← e) (u.number j h ∙ ap (λ v. bit_xor v m) (p.number j h) ∙ xor_twice (get_or old (at + j) 0) m)

each_back : (mask : List ℕ) (at n i : ℕ) (old mid new : List ℕ) → Masked mask at n old mid → Masked mask at n mid new
    → get_or new i 0 ≡ get_or old i 0
each_back mask at n zero old mid new p u = first_back mask at n n old mid new p u
each_back mask at n (suc i) old mid new p u =
    elim (cases_lt (suc i) at) [
      | inl before ↦ u.others (suc i) (omega arith) (inl before) ∙ p.others (suc i) (omega arith) (inl before)
      | inr from ↦ elim (cases_lt (suc i) (at + n)) [
        | inl within ↦ number_back mask at n (suc i) (suc i - at) old mid new (omega arith) (omega arith) p u
        | inr behind ↦ u.others (suc i) (omega arith) (inr behind) ∙ p.others (suc i) (omega arith) (inr behind)
      ]
    ]

masked_twice : (mask : List ℕ) (at n : ℕ) (old mid new : List ℕ) → Masked mask at n old mid → Masked mask at n mid new → new ≡ old
masked_twice mask at n old mid new p u = ext_get_or 0 new old (u.len ∙ p.len) (λ i h. each_back mask at n i old mid new p u)

pub same_range : (from len : ℕ) (xs ys : List ℕ) → from + len ≤ length xs → from + len ≤ length ys
    → ((i : ℕ) → from ≤ i → i < from + len → get_or xs i 0 ≡ get_or ys i 0) → take len (drop from xs) ≡ take len (drop from ys)
same_range from len xs ys fits fits' same =
    let l : length (take len (drop from xs)) ≡ len = length-take-le len (drop from xs) (omega (arith, length-drop from xs)) in
    let r : length (take len (drop from ys)) ≡ len = length-take-le len (drop from ys) (omega (arith, length-drop from ys)) in
    ext_get_or 0 (take len (drop from xs)) (take len (drop from ys)) (l ∙ sym r)
    (λ i h. let lt : i < len = omega arith in
    get_or-take len (drop from xs) i 0 lt ∙ get_or-drop from xs i 0 ∙ same (from + i) (omega arith) (omega arith)
    ∙ sym (get_or-take len (drop from ys) i 0 lt ∙ get_or-drop from ys i 0))

pub number_len-le : (first : ℕ) → number_len first ≤ 4
number_len-le first = omega (arith, and_le_r first 3)

-- a masked packet has the same sample
same_mask : (key : HeaderKey) (at : ℕ) (packet wire : List ℕ) → HasSample at (length packet) → Protected key at packet wire
    → mask_of key at wire ≡ mask_of key at packet
same_mask key at packet wire h p =
    let few : number_len (get_or packet 0 0) ≤ 4 = number_len-le (get_or packet 0 0) in
    let width : at + 20 - (at + 4) ≡ 16 = omega arith in
    let sampled : at + 4 + 16 ≤ length packet = omega (arith, h.sampled) in
    let same : take 16 (drop (at + 4) wire) ≡ take 16 (drop (at + 4) packet) =
    same_range (at + 4) 16 wire packet (omega (arith, p.len)) sampled (λ i le lt. p.others i (omega arith) (inr (omega arith))) in
    ap (header_protection key.algorithm key.bytes)
    (ap (λ k. take k (drop (at + 4) wire)) width ∙ same ∙ sym (ap (λ k. take k (drop (at + 4) packet)) width))

pub unprotected_back : (key : HeaderKey) (at : ℕ) (packet wire back : List ℕ) → HasSample at (length packet) → Protected key at packet wire
    → Unprotected key at wire back → back ≡ packet
unprotected_back key at packet wire back h p u =
    let n = number_len (get_or packet 0 0) in
    let v : Masked (mask_of key at packet) at (number_len (get_or back 0 0)) wire back =
    subst (λ mask. Masked mask at (number_len (get_or back 0 0)) wire back) (same_mask key at packet wire h p) u in
    let first = first_back (mask_of key at packet) at n (number_len (get_or back 0 0)) packet wire back p v in
    let w : Masked (mask_of key at packet) at n wire back =
    subst (λ k. Masked (mask_of key at packet) at k wire back) (ap number_len first) v in
    masked_twice (mask_of key at packet) at n packet wire back p w

-- Writing the masked bytes back also undoes unmasking.
module _ (key : HeaderKey) (at : ℕ) (wire packet back bytes : List ℕ) (u : Unprotected key at wire packet) (kept : HasMaskedBytes bytes at wire)
    (written : HasMaskedBytes bytes at back)
    (others : (i : ℕ) → 0 < i → (i < at) ⊎ (at + 4 ≤ i) → get_or back i 0 ≡ get_or packet i 0) where
  byte_back : (i : ℕ) → get_or back i 0 ≡ get_or wire i 0
  byte_back zero = sym written.first ∙ kept.first
  byte_back (suc i) = elim (cases_lt (suc i) at) [
    | inl before ↦ others (suc i) (omega arith) (inl before) ∙ u.others (suc i) (omega arith) (inl before)
    | inr from ↦ elim (cases_lt (suc i) (at + 4)) [
      | inl within ↦
          let j = suc i - at in
          let place : at + j ≡ suc i = omega arith in
          subst (λ k. get_or back k 0 ≡ get_or wire k 0) place (sym (written.number j (omega arith)) ∙ kept.number j (omega arith))
      | inr behind ↦
          others (suc i) (omega arith) (inr behind)
          ∙ u.others (suc i) (omega arith) (inr (omega (arith, number_len-le (get_or packet 0 0))))
    ]
  ]

  pub written_back : length back ≡ length packet → back ≡ wire
  written_back size = ext_get_or 0 back wire (size ∙ u.len) (λ i h. byte_back i)
