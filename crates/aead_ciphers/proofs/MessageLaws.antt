-- Laws of a sealed message under a key, which speak of public definitions alone: what proofs of crates above cite.
use Rattle.std.proofs.Common.{◌≡◌, ℕ, ◌+◌, List, [], ◌∷◌, length, refl, ap₂, ◌∙◌, arith, length-append}
use Rattle.aead_ciphers.specs
use specs.Aes.{aes, length_aes}
use specs.Bytes.{◌⊕◌}
use Rattle.aead_ciphers_base.proofs
use proofs.CounterModeLemmas.{counter_mode-twice, length-counter_mode}
use proofs.XorLemmas.{length-xor}
use specs.Gcm.{gcm_tag, gcm_encrypted, gcm_decrypted, gcm_sealed, tag_len}
use specs.Ghash.{◌•◌, block_of, ghash}

length-product : (x y : List ℕ) → length (x • y) ≡ 16
unfolding ◌•◌ block_of
length-product x y = refl

length-xor_16 : (xs ys : List ℕ) → length xs ≡ 16 → length ys ≡ 16 → length (xs ⊕ ys) ≡ 16
length-xor_16 xs ys m n = length-xor xs ys (omega (arith, m, n)) ∙ m

length-ghash : (h : List ℕ) (blocks : List (List ℕ)) → length (ghash h blocks) ≡ 16
unfolding ghash
length-ghash h [] = refl
length-ghash h (x ∷ xs) = length-xor_16 _ _ (length-product x _) (length-ghash h xs)

pub length-aes_tag : (key nonce aad ciphertext : List ℕ) → length (gcm_tag (aes key) nonce aad ciphertext) ≡ tag_len
unfolding gcm_tag
length-aes_tag key nonce aad ciphertext = length-xor_16 _ _ (length-ghash _ _) (length_aes key _)

pub length-aes_encrypted : (key nonce message : List ℕ) → length (gcm_encrypted (aes key) nonce message) ≡ length message
length-aes_encrypted key nonce message = length-counter_mode _ nonce 2 message

pub length-aes_decrypted : (key nonce ciphertext : List ℕ) → length (gcm_decrypted (aes key) nonce ciphertext) ≡ length ciphertext
length-aes_decrypted key nonce ciphertext = length-counter_mode _ nonce 2 ciphertext

pub length-aes_sealed : (key nonce aad message : List ℕ) → length (gcm_sealed (aes key) nonce aad message) ≡ length message + tag_len
length-aes_sealed key nonce aad message =
    length-append (gcm_encrypted (aes key) nonce message) (gcm_tag (aes key) nonce aad _)
    ∙ ap₂ (λ m n. m + n) (length-aes_encrypted key nonce message) (length-aes_tag key nonce aad _)

-- decrypting undoes encrypting, and encrypting decrypting
pub decrypted-encrypted : (key nonce message : List ℕ) → gcm_decrypted (aes key) nonce (gcm_encrypted (aes key) nonce message) ≡ message
decrypted-encrypted key nonce message = counter_mode-twice _ nonce 2 message

pub encrypted-decrypted : (key nonce ciphertext : List ℕ) → gcm_encrypted (aes key) nonce (gcm_decrypted (aes key) nonce ciphertext) ≡ ciphertext
encrypted-decrypted key nonce ciphertext = counter_mode-twice _ nonce 2 ciphertext
