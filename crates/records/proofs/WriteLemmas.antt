-- An inner plaintext and the payload of its record, which are made in place.
use Rattle.std.proofs.Common.{◌≡◌, ℕ, ◌+◌, ◌-◌, ◌<◌, List, [], ◌∷◌, ◌++◌, length, set, take, drop, replicate, sym, ap, ap₂, ◌∙◌, arith, append_assoc, append-nil, drop_at, length-append, length-drop, take_all, take_at}
use Rattle.std.proofs.lemmas.List.{drop_all, length-set, take_more_set}
use Rattle.aead_ciphers_base.specs.Aes.{aes}
use Rattle.aead_ciphers.specs.Counting.{xored_nonce}
use Rattle.aead_ciphers.specs.Gcm.{gcm_encrypted, gcm_tag}
use Rattle.aead_ciphers.proofs.MessageLaws.{length-aes_encrypted}
use borrow.Rule.Slice.PartMut.{put_mid}
use Rattle.records.specs.Keys.{KeyState}
use Rattle.records.specs.Record.{Inner, header, inner_plaintext, plaintext, record_at}

-- a type and zeros, written after a content, make it an inner plaintext
pub padded : (old zs : List ℕ) (n k code : ℕ) → n < length old → k ≡ length old - (n + 1) → zs ≡ replicate (length old - 1 - n) 0
    → put_mid (n + 1) k (set old n code) zs ≡ plaintext (take n old) code (length old - 1 - n)
padded old zs n k code within part zeros =
    let typed = set old n code in
    let none = drop_all k (drop (n + 1) typed) (omega (arith, length-drop (n + 1) typed, length-set old n code)) in
    ap₂ (λ xs ys. xs ++ (zs ++ ys)) (take_more_set old n code within) none
    ∙ ap (λ ys. (take n old ++ code ∷ []) ++ ys) (append-nil zs ∙ zeros)
    ∙ append_assoc (take n old) (code ∷ []) (replicate (length old - 1 - n) 0)

-- a payload is a ciphertext and its tag, and with the header of its length it is the record
pub sealed_payload : (key : KeyState) (number n : ℕ) (i : Inner) (text tag : List ℕ) → n ≡ length (inner_plaintext i) + 16
    → text ≡ gcm_encrypted (aes key.bytes) (xored_nonce key.iv number) (inner_plaintext i)
    → tag ≡ gcm_tag (aes key.bytes) (xored_nonce key.iv number) (header n) text → header n ++ (text ++ tag) ≡ record_at key number i
sealed_payload key number n i text tag size is_text is_tag =
    let cipher = aes key.bytes in
    let nonce = xored_nonce key.iv number in
    ap (λ t. header n ++ (text ++ t)) is_tag
    ∙ ap₂ (λ m c. header m ++ (c ++ gcm_tag cipher nonce (header m) c)) size is_text

-- a buffer that ends with a header and an inner plaintext, once the plaintext is encrypted in place and its tag is after it
module _ (key : KeyState) (number n at len : ℕ) (i : Inner) (old head buffer text tag : List ℕ) (size : n ≡ length (inner_plaintext i) + 16)
    (is_head : head ≡ header n) (is : buffer ≡ old ++ (head ++ inner_plaintext i)) (from : at ≡ length old + 5) (all : len ≡ length buffer)
    (is_text : text ≡ gcm_encrypted (aes key.bytes) (xored_nonce key.iv number) (take (length buffer - at) (drop at buffer)))
    (is_tag : tag ≡ gcm_tag (aes key.bytes) (xored_nonce key.iv number) head text) where
  cut : buffer ≡ (old ++ head) ++ inner_plaintext i
  cut = is ∙ sym (append_assoc old head (inner_plaintext i))

  length-front : length (old ++ head) ≡ at
  length-front = omega (arith, length-append old head, ap length is_head, from)

  message : take (length buffer - at) (drop at buffer) ≡ inner_plaintext i
  message =
      ap (take (length buffer - at)) (ap (drop at) cut ∙ drop_at (old ++ head) (inner_plaintext i) at length-front)
      ∙ take_all (length buffer - at) (inner_plaintext i)
      (omega (arith, ap length cut, length-append (old ++ head) (inner_plaintext i), length-front))

  encrypted : text ≡ gcm_encrypted (aes key.bytes) (xored_nonce key.iv number) (inner_plaintext i)
  encrypted = is_text ∙ ap (gcm_encrypted (aes key.bytes) (xored_nonce key.iv number)) message

  overwritten : put_mid at (length buffer - at) buffer text ≡ (old ++ head) ++ text
  overwritten =
      let front = ap (take at) cut ∙ take_at (old ++ head) (inner_plaintext i) at length-front in
      let none = drop_all (length buffer - at) (drop at buffer) (omega (arith, length-drop at buffer)) in
      ap₂ (λ xs ys. xs ++ (text ++ ys)) front none ∙ ap (λ ys. (old ++ head) ++ ys) (append-nil text)

  pub sealed_behind : (rest : List ℕ) → take len (put_mid at (length buffer - at) buffer text ++ rest) ++ tag ≡ old ++ record_at key number i
  sealed_behind rest =
      let same = ap length encrypted ∙ length-aes_encrypted key.bytes (xored_nonce key.iv number) (inner_plaintext i) in
      let count = length-append (old ++ head) text ∙ omega
      (arith, length-front, same, all, ap length cut, length-append (old ++ head) (inner_plaintext i)) in
      ap (λ xs. take len (xs ++ rest) ++ tag) overwritten ∙ ap (λ xs. xs ++ tag) (take_at ((old ++ head) ++ text) rest len count)
      ∙ append_assoc (old ++ head) text tag ∙ append_assoc old head (text ++ tag)
      ∙ ap (λ xs. old ++ xs) (ap (λ h. h ++ (text ++ tag)) is_head
      ∙ sealed_payload key number n i text tag size encrypted (rw is_head at is_tag))
