-- The keys of TLS 1.3's records (RFC 8446 sections 7.2 and 7.3).
use Rattle.std.specs.Prelude.{ℕ, List, codes}
use Rattle.key_derivation.specs.Secret.{SecretState, labeled, next_secret, suite_key_len}

-- the key and the IV of a traffic secret (section 7.3)
abbrev pub record_key : SecretState → List ℕ
record_key s = labeled s (codes "key") (suite_key_len s.suite)

abbrev pub record_iv : SecretState → List ℕ
record_iv s = labeled s (codes "iv") 12

-- the next traffic secret (section 7.2)
abbrev pub next_traffic_secret : SecretState → SecretState
next_traffic_secret s = next_secret s (codes "traffic upd")
