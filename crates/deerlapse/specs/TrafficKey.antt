-- A `TrafficKey`, which protects the packets or the records of one direction of a connection, and the secrets that give it.
use Rattle.std.specs.Prelude.{◌≡◌, ◌≢◌, ℕ, ◌⊎◌, ◌==◌, ◌≤◌, ◌+◌, ◌^◌, ◌↔◌, if◌then◌else◌, Bool, List, length, take, replicate, IsTrue, IsFalse, IsSome, IfSome}
use Rattle.aead_ciphers.specs.Gcm.{tag_len}
use Rattle.aead_ciphers_wide.specs.ExpandedKey.{HasZerosAfter, IsExpanded, bytes_of, zero_key}
use Rattle.key_derivation.specs.Hash.{HashFunction}
use Rattle.key_derivation.specs.Quic.{QuicSecretState, numbered_version, quic_iv, quic_key}
use Rattle.key_derivation.specs.Secret.{SecretState, suite_hash}
use Rattle.key_derivation.specs.Tls.{record_iv, record_key}
use Rattle.key_derivation.specs.declared.quic.Version.{Version}
use Rattle.key_derivation.specs.declared.suite.Suite.{Suite}
use Rattle.key_derivation.specs.declared.suite.Suite.TheVariants.{Aes128Gcm, Aes256Gcm}
use Rattle.records.specs.Record.{plaintext}
use Rattle.deerlapse.specs.AesKey.{IsAesKeyLen}
use Rattle.deerlapse.specs.declared.traffic_key.TrafficKey.{TrafficKey}

-- this is the length of a digest of SHA-256 or SHA-384, and of a secret that is used with that function (RFC 8446 section 7.1)
abbrev pub IsDigestLen : ℕ → Type 0
IsDigestLen n = (n ≡ 32) ⊎ (n ≡ 48)

-- the suite whose secrets have this length (RFC 8446 section B.4)
abbrev pub suite_of : ℕ → Suite
suite_of n = if n == 48 then Aes256Gcm else Aes128Gcm

-- the hash function whose digests have this length
abbrev pub hash_of : ℕ → HashFunction
hash_of n = suite_hash (suite_of n)

-- the secret of these bytes, whose number tells its suite
abbrev pub secret_of : List ℕ → SecretState
secret_of bytes = record { suite = suite_of (length bytes); bytes = bytes }

-- the secret of these bytes in a version of QUIC
abbrev pub quic_secret_of : List ℕ → Version → QuicSecretState
quic_secret_of bytes version = record { version = version; secret = secret_of bytes }

-- the key is the expansion of these bytes, and has this IV
pub record IsTrafficKey (key : TrafficKey) (bytes iv : List ℕ) : Type 0 where
  pub expanded : IsExpanded key.key
  pub unused : HasZerosAfter key.key
  pub bytes_are : bytes_of key.key ≡ bytes
  pub iv_is : key.iv ≡ iv
  pub zeros : key.room ≡ replicate 4 0

-- the key is that of the packets that a secret of QUIC protects (RFC 9001 section 5.1, RFC 9369 section 3.3.2)
abbrev pub IsPacketKey : TrafficKey → QuicSecretState → Type 0
IsPacketKey key s = IsTrafficKey key (quic_key s) (quic_iv s)

-- the key is that of the records that a traffic secret protects (RFC 8446 section 7.3)
abbrev pub IsRecordKey : TrafficKey → SecretState → Type 0
IsRecordKey key s = IsTrafficKey key (record_key s) (record_iv s)

-- what a call returns that initializes a key from its bytes and its IV, and the key that it leaves: it accepts the lengths of a
-- key, and changes nothing if it refuses
pub record InitializesTrafficKey (bytes iv : List ℕ) (was : TrafficKey) (result : Bool) (now : TrafficKey) : Type 0 where
  pub accepted : IsTrue result ↔ IsAesKeyLen (length bytes)
  pub made : IsTrue result → IsTrafficKey now bytes iv
  pub refused : IsFalse result → now ≡ was

-- what a call returns that derives a key from a secret of QUIC, and the key that it leaves: it accepts the numbers of the
-- versions and the lengths of a secret, and changes nothing if it refuses; `IsKey` says which key of the secret it is
pub record DerivesQuicKey {Key : Type 0} (IsKey : Key → QuicSecretState → Type 0) (number : ℕ) (secret : List ℕ) (was : Key)
    (result : Bool) (now : Key) : Type 0 where
  pub accepted : IsTrue result ↔ (IsSome (numbered_version number) × IsDigestLen (length secret))
  pub made : IsTrue result → IfSome (numbered_version number) (λ version. IsKey now (quic_secret_of secret version))
  pub refused : IsFalse result → now ≡ was

-- what a call returns that derives a key from a traffic secret, and the key that it leaves: it accepts the lengths of a secret,
-- and changes nothing if it refuses
pub record DerivesRecordKey (secret : List ℕ) (was : TrafficKey) (result : Bool) (now : TrafficKey) : Type 0 where
  pub accepted : IsTrue result ↔ IsDigestLen (length secret)
  pub made : IsTrue result → IsRecordKey now (secret_of secret)
  pub refused : IsFalse result → now ≡ was

-- a wiped key, of which every byte is zero
abbrev pub zero_traffic_key : TrafficKey
zero_traffic_key = record { key = zero_key; iv = replicate 12 0; room = replicate 4 0 }

-- the payload of a record may have n bytes: it is an inner plaintext, with at least a content type, and a tag, and has at most
-- 2^14 + 256 bytes (RFC 8446 section 5.2)
abbrev pub IsPayloadLen : ℕ → Type 0
IsPayloadLen n = (1 + tag_len ≤ n) × (n ≤ 2 ^ 14 + 256)

-- an inner plaintext begins with a content of `len` bytes, after which come the type with this code and zeros; if it is all
-- zeros, it has no type, and both numbers are 0 (RFC 8446 section 5.4)
pub record IsInner (inner : List ℕ) (code len : ℕ) : Type 0 where
  pub typed : code ≢ 0 → (padding : ℕ) × (len + 1 + padding ≡ length inner) × (inner ≡ plaintext (take len inner) code padding)
  pub untyped : code ≡ 0 → (len ≡ 0) × (inner ≡ replicate (length inner) 0)
