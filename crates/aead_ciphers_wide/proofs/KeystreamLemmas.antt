-- A block that is added to a block of keystream in place.
-- The keystream is added to the text as it is unpacked, so the text of a batch is not copied.
use Rattle.std.proofs.Common.{◌≡◌, ℕ, ◌+◌, ◌*◌, ◌≤◌, List, ◌++◌, length, drop, bit_xor, append-nil, refl, sym, subst, ap, ap₂, ◌∙◌, arith, length-drop}
use Rattle.std.specs.Simd.Lanes.{chunk, put_chunk}
use Rattle.std.proofs.lemmas.List.{nil_from_length}
use Rattle.std.proofs.lemmas.Simd.{length-chunk, length-put_chunk, length-zip2, put_chunk_is}
use Rattle.aead_ciphers_base.specs.Bytes.{◌⊕◌}
use Rattle.aead_ciphers_base.proofs.CounterModeLemmas.{EncryptsFirst, encrypts_block}
use Rattle.aead_ciphers_wide.specs.Keystream.{IsKeystream}

-- i blocks were encrypted: block i is read at `from`, and its sum with the keystream put after them
pub adds_block : (cipher : List ℕ → List ℕ) (counter pad : List ℕ) (s i at from : ℕ) (was now next : List ℕ) → s + 16 * i + 16 ≤ length was
    → length now ≡ length was → length pad ≡ 16 → EncryptsFirst cipher counter s (16 * i) was now → IsKeystream cipher counter pad i
    → at ≡ 16 * i → from ≡ s + 16 * i → next ≡ put_chunk at now (chunk from 16 now ⊕ pad)
    → (length next ≡ length was) × EncryptsFirst cipher counter s (16 * (i + 1)) was next
adds_block cipher counter pad s i at from was now next room same size done is ea ef e =
    let text = chunk (s + 16 * i) 16 now in
    let sum = text ⊕ pad in
    let long : length text ≡ 16 = length-chunk (s + 16 * i) 16 now (omega (arith, same)) in
    let size' : length sum ≡ 16 = length-zip2 bit_xor text pad (long ∙ sym size) ∙ long in
    let none = nil_from_length (drop (length pad) text) (omega (arith, length-drop (length pad) text)) in
    let put = ap₂ (λ a f. put_chunk a now (chunk f 16 now ⊕ pad)) ea ef ∙ put_chunk_is (16 * i) now sum (omega (arith, same)) in (
      ap length e ∙ length-put_chunk at now (chunk from 16 now ⊕ pad) ∙ same,
      subst (EncryptsFirst cipher counter s (16 * (i + 1)) was) (sym (e ∙ put))
          (encrypts_block cipher counter is.of pad s i 16 (length sum) was now text sum room same refl size' done is.advances is.value size refl
          (sym (ap (λ u. sum ++ u) none ∙ append-nil sum))),
    )
