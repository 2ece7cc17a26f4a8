-- The keys of QUIC in each version (RFC 9001 sections 5.1, 5.2 and 6.1, RFC 9369 section 3).
use Rattle.std.specs.Prelude.{ℕ, ◌==◌, if◌then◌else◌, List, [], ◌∷◌, Option, None, Some, codes}
use Rattle.key_derivation.specs.Hash.{sha_256}
use Rattle.key_derivation.specs.Hkdf.{hkdf_extract, hkdf_expand_label}
use Rattle.key_derivation.specs.Secret.{SecretState, labeled, next_secret, suite_key_len}
use Rattle.key_derivation.specs.declared.quic.Version.{Version}
use Rattle.key_derivation.specs.declared.quic.Version.TheVariants.{One, Two}
use Rattle.key_derivation.specs.declared.suite.Suite.TheVariants.{Aes128Gcm}

-- the number of a version in a long header (RFC 9000 section 15, RFC 9369 section 3.1)
abbrev pub version_number : Version → ℕ
version_number One = 1
version_number Two = 0x6b3343cf

-- the version with a number
abbrev pub numbered_version : ℕ → Option Version
numbered_version number =
    if number == version_number One then Some One else if number == version_number Two then Some Two else None

-- a secret of QUIC: the version, which determines the labels, and the traffic secret
pub record QuicSecretState : Type 0 where
  pub version : Version
  pub secret : SecretState

-- the labels of the key, the IV and the header key (RFC 9001 section 5.1, RFC 9369 section 3.3.2)
abbrev pub key_label : Version → List ℕ
key_label One = codes "quic key"
key_label Two = codes "quicv2 key"

abbrev pub iv_label : Version → List ℕ
iv_label One = codes "quic iv"
iv_label Two = codes "quicv2 iv"

abbrev pub header_key_label : Version → List ℕ
header_key_label One = codes "quic hp"
header_key_label Two = codes "quicv2 hp"

-- the label of a key update (RFC 9001 section 6.1, RFC 9369 section 3.3.2)
abbrev pub update_label : Version → List ℕ
update_label One = codes "quic ku"
update_label Two = codes "quicv2 ku"

-- the key, the IV and the header key of a secret (RFC 9001 section 5.1)
abbrev pub quic_key : QuicSecretState → List ℕ
quic_key s = labeled s.secret (key_label s.version) (suite_key_len s.secret.suite)

abbrev pub quic_iv : QuicSecretState → List ℕ
quic_iv s = labeled s.secret (iv_label s.version) 12

abbrev pub quic_header_key : QuicSecretState → List ℕ
quic_header_key s = labeled s.secret (header_key_label s.version) (suite_key_len s.secret.suite)

-- the next secret (RFC 9001 section 6.1)
abbrev pub next_quic_secret : QuicSecretState → QuicSecretState
next_quic_secret s = record s { secret = next_secret s.secret (update_label s.version) }

-- initial_salt (RFC 9001 section 5.2, RFC 9369 section 3.3.1)
abbrev pub initial_salt : Version → List ℕ
initial_salt One =
    0x38 ∷ 0x76 ∷ 0x2c ∷ 0xf7 ∷ 0xf5 ∷ 0x59 ∷ 0x34 ∷ 0xb3 ∷ 0x4d ∷ 0x17 ∷
    0x9a ∷ 0xe6 ∷ 0xa4 ∷ 0xc8 ∷ 0x0c ∷ 0xad ∷ 0xcc ∷ 0xbb ∷ 0x7f ∷ 0x0a ∷ []
initial_salt Two =
    0x0d ∷ 0xed ∷ 0xe3 ∷ 0xde ∷ 0xf7 ∷ 0x00 ∷ 0xa6 ∷ 0xdb ∷ 0x81 ∷ 0x93 ∷
    0x81 ∷ 0xbe ∷ 0x6e ∷ 0x26 ∷ 0x9d ∷ 0xcb ∷ 0xf9 ∷ 0xbd ∷ 0x2e ∷ 0xd9 ∷ []

-- initial_secret (RFC 9001 section 5.2)
abbrev pub initial_secret : Version → (id : List ℕ) → List ℕ
initial_secret version id = hkdf_extract sha_256 (initial_salt version) id

-- client_initial_secret or server_initial_secret, by its label (RFC 9001 section 5.2)
abbrev pub endpoint_secret : Version → (id label : List ℕ) → QuicSecretState
endpoint_secret version id label = record {
  version = version;
  secret = record { suite = Aes128Gcm; bytes = hkdf_expand_label sha_256 (initial_secret version id) label [] 32 };
}

abbrev pub client_initial_secret : Version → (id : List ℕ) → QuicSecretState
client_initial_secret version id = endpoint_secret version id (codes "client in")

abbrev pub server_initial_secret : Version → (id : List ℕ) → QuicSecretState
server_initial_secret version id = endpoint_secret version id (codes "server in")
