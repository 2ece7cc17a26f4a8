-- The hash functions (FIPS 180-4).
use Rattle.std.specs.Prelude.{ℕ, List}
use Rattle.sha2.specs.Sha256.{sha256}
use Rattle.sha2.specs.Sha512.{sha384}

-- a hash function, the bytes of its block and of its digest: H, B and L of RFC 2104 section 2
pub record HashFunction : Type 0 where
  pub hash : List ℕ → List ℕ
  pub block_len : ℕ
  pub output_len : ℕ

abbrev pub sha_256 : HashFunction
sha_256 = record { hash = sha256; block_len = 64; output_len = 32 }

abbrev pub sha_384 : HashFunction
sha_384 = record { hash = sha384; block_len = 128; output_len = 48 }
