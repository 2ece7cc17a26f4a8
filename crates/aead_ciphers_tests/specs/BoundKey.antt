-- A key over a counter.
use Rattle.std.specs.Prelude.{ℕ, ◌+◌, ◌-◌, List, drop, take}
use Rattle.aead_ciphers_base.specs.Aes.{aes}
use Rattle.aead_ciphers.specs.BoundState.{BoundState}
use Rattle.aead_ciphers.specs.Counting.{Counting, next_nonce, prefixed_nonce}
use Rattle.aead_ciphers.specs.Gcm.{gcm_decrypted}

-- the key after a call that uses the next nonce
abbrev pub advanced : BoundState Counting → BoundState Counting
advanced key = record key { sequence = record key.sequence { used = key.sequence.used + 1 } }

-- the plaintext of a packet under the next nonce: in the buffer its ciphertext begins at `start`, and its tag ends at `end`
abbrev pub next_text : BoundState Counting → ℕ → ℕ → List ℕ → List ℕ
next_text key start end buffer =
    gcm_decrypted (aes key.key.bytes) (next_nonce prefixed_nonce key.sequence) (take (end - 16 - start) (drop start buffer))
