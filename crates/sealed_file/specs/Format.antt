-- Sealed files, as SEALED_FILE.md defines them.
use Rattle.std.specs.Prelude.{ℕ, Bool, ◌+◌, ◌-◌, ◌*◌, ◌/◌, List, [], ◌∷◌, ◌++◌, length, take, drop, codes, ◌==◌, if◌then◌else◌}
use Rattle.std.specs.List.{concat}
use Rattle.std.specs.Int.{to_be_bytes, w32}
use Rattle.aead_ciphers_base.specs.Bytes.{each_below}
use Rattle.aead_ciphers_base.specs.Aes.{aes}
use Rattle.aead_ciphers.specs.Gcm.{gcm_sealed, tag_len}
use Rattle.sealed_file.specs.Derivation.{commitment}
use Rattle.xaes.specs.Derivation.{derived_key}

-- the length of a chunk that is not the last, in bytes: 64 KiB
abbrev pub chunk_len : ℕ
chunk_len = 65536

-- the length of such a chunk when it is sealed, with its tag
abbrev pub sealed_chunk_len : ℕ
sealed_chunk_len = chunk_len + tag_len

-- piece i of bytes that are cut into pieces of `size` bytes, of which the last may be shorter
abbrev pub piece : ℕ → List ℕ → ℕ → List ℕ
piece size bytes i = take size (drop (size * i) bytes)

-- the number of the last piece of so many bytes: no bytes are one empty piece
abbrev pub last_piece : ℕ → ℕ → ℕ
last_piece size n = (n - 1) / size

-- what a file is sealed under: the version of the format, the key of 32 bytes that the file's key is derived from, and the AAD
-- after the first 60 bytes of the header
pub record Secret : Type 0 where
  pub version : ℕ
  pub key : List ℕ
  pub aad : List ℕ

abbrev pub secret_of : (version : ℕ) (key aad : List ℕ) → Secret
secret_of version key aad = record { version = version; key = key; aad = aad }

-- what a file of version 2 is sealed under: the user's key, and the AAD that the caller binds the file to, which the file
-- doesn't hold
abbrev pub secret : (key aad : List ℕ) → Secret
secret key aad = secret_of 2 key aad

-- the key of a file's chunks: an AES-256-GCM key, the prefix of the nonces, the file's header, and the AAD of every chunk, which
-- is the header and then the caller's
pub record ChunkKey : Type 0 where
  pub key : List ℕ
  pub prefix : List ℕ
  pub header : List ℕ
  pub aad : List ℕ

-- the key of the same chunks in a file with this header
abbrev pub with_header : (header : List ℕ) (k : ChunkKey) → ChunkKey
with_header header k = record { key = k.key; prefix = k.prefix; header = header; aad = k.aad }

-- the magic and a version
abbrev pub magic_and_version : ℕ → List ℕ
magic_and_version version = codes "SEALFILE" ++ version ∷ []

-- what is made with 19 random bytes: the key derived for the first 12 as the context, the other 7 as the prefix, and a header
-- with the random bytes and the commitment to the key
unfoldable pub fresh_key : (s : Secret) (random : List ℕ) → ChunkKey
fresh_key s random =
    let context = take 12 random in
    let header = magic_and_version s.version ++ (random ++ commitment s.key context) in record {
      key = derived_key s.key context;
      prefix = take 7 (drop 12 random);
      header = header;
      aad = header ++ s.aad;
    }

-- the nonce of a chunk: the prefix, the chunk's number in four big-endian bytes, and a byte that is 1 for the last chunk and 0
-- otherwise
unfoldable pub chunk_nonce : List ℕ → ℕ → Bool → List ℕ
chunk_nonce prefix number is_last = prefix ++ to_be_bytes w32 number ++ (if is_last then 1 else 0) ∷ []

-- a chunk, sealed
unfoldable pub sealed_chunk : (k : ChunkKey) (number : ℕ) (is_last : Bool) (chunk : List ℕ) → List ℕ
sealed_chunk k number is_last chunk = gcm_sealed (aes k.key) (chunk_nonce k.prefix number is_last) k.aad chunk

-- chunk i of a file, sealed
abbrev pub sealed_chunk_of : (k : ChunkKey) (file : List ℕ) (i : ℕ) → List ℕ
sealed_chunk_of k file i =
    sealed_chunk k i (i == last_piece chunk_len (length file)) (piece chunk_len file i)

-- the first n chunks of a file, sealed
unfoldable pub sealed_chunks : (k : ChunkKey) (file : List ℕ) (n : ℕ) → List ℕ
sealed_chunks k file n = concat (each_below n (sealed_chunk_of k file))

-- a file, sealed
abbrev pub sealed_file : (k : ChunkKey) (file : List ℕ) → List ℕ
sealed_file k file = k.header ++ sealed_chunks k file (last_piece chunk_len (length file) + 1)
