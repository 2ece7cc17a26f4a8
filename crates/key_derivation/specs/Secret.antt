-- What contracts see of a secret, and the lengths that its suite determines.
use Rattle.std.specs.Prelude.{ℕ, List, []}
use Rattle.key_derivation.specs.Hash.{HashFunction, sha_256, sha_384}
use Rattle.key_derivation.specs.Hkdf.{hkdf_expand_label}
use Rattle.key_derivation.specs.declared.suite.Suite.{Suite}
use Rattle.key_derivation.specs.declared.suite.Suite.TheVariants.{Aes128Gcm, Aes256Gcm}
use Rattle.key_derivation.specs.declared.secret.SecretBytes.{SecretBytes}
use Rattle.key_derivation.specs.declared.secret.SecretBytes.TheVariants.{Sha256, Sha384}

-- the hash function of a suite (RFC 8446 section B.4)
abbrev pub suite_hash : Suite → HashFunction
suite_hash Aes128Gcm = sha_256
suite_hash Aes256Gcm = sha_384

-- the length of a suite's secrets in bytes (RFC 8446 section 7.1)
abbrev pub suite_secret_len : Suite → ℕ
suite_secret_len s = (suite_hash s).output_len

-- the length of a suite's keys in bytes (RFC 5116 sections 5.1 and 5.2)
abbrev pub suite_key_len : Suite → ℕ
suite_key_len Aes128Gcm = 16
suite_key_len Aes256Gcm = 32

-- a secret: its suite and its bytes
pub record SecretState : Type 0 where
  pub suite : Suite
  pub bytes : List ℕ

abbrev pub secret_state : SecretBytes → SecretState
secret_state (Sha256 b) = record { suite = Aes128Gcm; bytes = b }
secret_state (Sha384 b) = record { suite = Aes256Gcm; bytes = b }

-- HKDF-Expand-Label under the hash of the suite, with no context
abbrev pub labeled : SecretState → (label : List ℕ) → (len : ℕ) → List ℕ
labeled s label len = hkdf_expand_label (suite_hash s.suite) s.bytes label [] len

-- the next secret, derived with this label; it is as long as the secret before it
abbrev pub next_secret : SecretState → (label : List ℕ) → SecretState
next_secret s label = record s { bytes = labeled s label (suite_secret_len s.suite) }
