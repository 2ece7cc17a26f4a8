-- A `HeaderKey`, which masks the headers of one direction of QUIC, as contracts describe it.
use Rattle.std.specs.Prelude.{◌≡◌, ℕ, ◌≤◌, ◌↔◌, Bool, List, length, replicate, IsTrue, IsFalse}
use Rattle.aead_ciphers_wide.specs.WideSchedule.{AreZerosAfter, IsSchedule, key_of}
use Rattle.key_derivation.specs.Quic.{QuicSecretState, quic_header_key}
use Rattle.deerlapse.specs.AesKey.{IsAesKeyLen}
use Rattle.deerlapse.specs.declared.header_key.HeaderKey.{HeaderKey}

-- the bytes of a key, with which its round keys begin (FIPS 197 section 5.2)
abbrev pub bytes_of : HeaderKey → List ℕ
bytes_of key = key_of key.round_keys key.rounds

-- an expanded key has 10 to 14 rounds (FIPS 197 section 5)
abbrev pub HasHeaderRounds : HeaderKey → Type 0
HasHeaderRounds key = (10 ≤ key.rounds) × (key.rounds ≤ 14)

-- a key with the rounds of AES has its round keys; this holds of an initialized key, and of zeros, which have 0 rounds
abbrev pub IsHeaderKeyOrNone : HeaderKey → Type 0
IsHeaderKeyOrNone key = HasHeaderRounds key → IsSchedule key.round_keys key.rounds

-- the key has the round keys of these bytes, and zeros in the places that only a key of more rounds uses
pub record IsHeaderKeyOf (key : HeaderKey) (bytes : List ℕ) : Type 0 where
  pub expanded : IsSchedule key.round_keys key.rounds
  pub unused : AreZerosAfter key.round_keys key.rounds
  pub bytes_are : bytes_of key ≡ bytes

-- the key is that for the headers of the packets that a secret of QUIC protects (RFC 9001 section 5.1, RFC 9369 section 3.3.2)
abbrev pub IsQuicHeaderKey : HeaderKey → QuicSecretState → Type 0
IsQuicHeaderKey key s = IsHeaderKeyOf key (quic_header_key s)

-- what a call returns that initializes a key from its bytes, and the key that it leaves: it accepts the lengths of a key, and
-- changes nothing if it refuses
pub record InitializesHeaderKey (bytes : List ℕ) (was : HeaderKey) (result : Bool) (now : HeaderKey) : Type 0 where
  pub accepted : IsTrue result ↔ IsAesKeyLen (length bytes)
  pub made : IsTrue result → IsHeaderKeyOf now bytes
  pub refused : IsFalse result → now ≡ was

-- a wiped key, of which every byte is zero
abbrev pub zero_header_key : HeaderKey
zero_header_key = record { rounds = 0; round_keys = replicate 15 (replicate 16 0) }
