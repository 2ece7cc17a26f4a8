-- What `aeadrun` keeps from line to line.
use Rattle.std.specs.Prelude.{ℕ, List}
use Rattle.aead_ciphers.specs.BoundState.{BoundState}
use Rattle.aead_ciphers.specs.Counting.{Counting}
use Rattle.aead_ciphers.specs.declared.aead.algorithm.Algorithm.{Algorithm}

-- a key with these bytes, and a sequence none of whose nonces is used
abbrev pub first_state : Algorithm → (key prefix : List ℕ) (first count : ℕ) → BoundState Counting
first_state algorithm key prefix first count = record {
  key = record { algorithm = algorithm; bytes = key };
  sequence = record { fixed = prefix; first = first; count = count; used = 0 };
}
