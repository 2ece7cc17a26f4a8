-- The algorithms of a suite, for payloads and for headers (RFC 9001 sections 5.3 and 5.4.3).
use Rattle.aead_ciphers.specs.declared.aead.algorithm.Algorithm.{Algorithm}
use Rattle.aead_ciphers.specs.declared.aead.algorithm.TheConstants.{AES_128_GCM, AES_256_GCM}
use Rattle.aead_ciphers.specs.declared.aead.quic.Algorithm.{Algorithm as HeaderAlgorithm}
use Rattle.aead_ciphers.specs.declared.aead.quic.TheConstants.{AES_128, AES_256}
use Rattle.key_derivation.specs.declared.suite.Suite.{Suite}
use Rattle.key_derivation.specs.declared.suite.Suite.TheVariants.{Aes128Gcm, Aes256Gcm}

-- the algorithm of the payload
abbrev pub algorithm : Suite → Algorithm
algorithm Aes128Gcm = AES_128_GCM
algorithm Aes256Gcm = AES_256_GCM

-- the algorithm of the header
abbrev pub header_algorithm : Suite → HeaderAlgorithm
header_algorithm Aes128Gcm = AES_128
header_algorithm Aes256Gcm = AES_256
