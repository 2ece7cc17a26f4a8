-- The sealed files that opening accepts, and the files that they open to.
use Rattle.std.specs.Prelude.{◌≡◌, ℕ, Bool, ◌+◌, ◌-◌, ◌*◌, ◌^◌, ◌<◌, ◌≤◌, List, length, take, drop, ◌==◌}
use Rattle.std.specs.List.{concat}
use Rattle.aead_ciphers_base.specs.Bytes.{each_below}
use Rattle.aead_ciphers_base.specs.Aes.{aes}
use Rattle.aead_ciphers.specs.Gcm.{gcm_decrypted, gcm_tag, tag_len}
use Rattle.sealed_file.specs.Format.{ChunkKey, Secret, chunk_len, chunk_nonce, last_piece, piece, sealed_chunk_len, sealed_chunk_of, fresh_key}

-- the bytes before the tag
abbrev pub ciphertext_of : List ℕ → List ℕ
ciphertext_of sealed = take (length sealed - tag_len) sealed

-- the tag defined for the ciphertext of the chunk with this number that is the last, or is not
abbrev pub chunk_tag : (k : ChunkKey) (number : ℕ) (is_last : Bool) (ciphertext : List ℕ) → List ℕ
chunk_tag k number is_last ciphertext = gcm_tag (aes k.key) (chunk_nonce k.prefix number is_last) k.aad ciphertext

-- the bytes end with the tag defined for the chunk with this number that is the last, or is not
pub record HasTag (k : ChunkKey) (number : ℕ) (is_last : Bool) (sealed : List ℕ) : Type 0 where
  pub size : tag_len ≤ length sealed
  pub tag : drop (length sealed - tag_len) sealed ≡ chunk_tag k number is_last (ciphertext_of sealed)

-- the message of a sealed chunk
unfoldable pub opened_chunk : (k : ChunkKey) (number : ℕ) (is_last : Bool) (sealed : List ℕ) → List ℕ
opened_chunk k number is_last sealed =
    gcm_decrypted (aes k.key) (chunk_nonce k.prefix number is_last) (ciphertext_of sealed)

-- the length of a header: the magic, the version, 19 random bytes and the commitment
abbrev pub header_len : ℕ
header_len = 60

-- a file's header, or the part of it that the file has
abbrev pub header_of : List ℕ → List ℕ
header_of file = take header_len file

-- the context in a file's header
abbrev pub context_of : List ℕ → List ℕ
context_of file = take 12 (drop 9 file)

-- the bytes after the header
abbrev pub body_of : List ℕ → List ℕ
body_of file = drop header_len file

-- the key of the chunks after a header, from the 19 random bytes after its magic and version
abbrev pub chunk_key : (s : Secret) (header : List ℕ) → ChunkKey
chunk_key s header = fresh_key s (take 19 (drop 9 header))

-- the bytes are a header under this key: the one defined for its random bytes, with the commitment to this key
pub record HasHeader (s : Secret) (header : List ℕ) : Type 0 where
  pub right : header ≡ (chunk_key s header).header

-- the key of the chunks of a file
abbrev pub key_of : (s : Secret) (file : List ℕ) → ChunkKey
key_of s file = chunk_key s (header_of file)

-- the number of the last chunk
abbrev pub last_chunk : List ℕ → ℕ
last_chunk file = last_piece sealed_chunk_len (length (body_of file))

-- chunk i of a sealed file
abbrev pub chunk_of : (file : List ℕ) → ℕ → List ℕ
chunk_of file i = piece sealed_chunk_len (body_of file) i

-- chunk i of a sealed file has its tag under this key
abbrev pub HasTagUnder : (k : ChunkKey) (file : List ℕ) → ℕ → Type 0
HasTagUnder k file i = HasTag k i (i == last_chunk file) (chunk_of file i)

-- chunk i of a sealed file has its tag
abbrev pub HasRightTag : (s : Secret) (file : List ℕ) → ℕ → Type 0
HasRightTag s file i = HasTagUnder (key_of s file) file i

-- the first n chunks have their tags
pub record AreRight (s : Secret) (file : List ℕ) (n : ℕ) : Type 0 where
  pub each : (i : ℕ) → i < n → HasRightTag s file i

-- the header is right, and every chunk has the tag defined for the header, its number and whether it is the last
pub record IsSealed (s : Secret) (file : List ℕ) : Type 0 where
  pub front : HasHeader s (header_of file)
  pub few : last_chunk file < 2 ^ 32 - 1
  pub tags : AreRight s file (last_chunk file + 1)

-- the messages of the first n chunks under this key, in order
unfoldable pub messages_under : (k : ChunkKey) (file : List ℕ) (n : ℕ) → List ℕ
messages_under k file n =
    concat (each_below n (λ i. opened_chunk k i (i == last_chunk file) (chunk_of file i)))

-- the messages of all chunks under this key, in order
abbrev pub plaintext_under : (k : ChunkKey) (file : List ℕ) → List ℕ
plaintext_under k file = messages_under k file (last_chunk file + 1)

-- the messages of the first n chunks, in order
abbrev pub opened_chunks : (s : Secret) (file : List ℕ) (n : ℕ) → List ℕ
opened_chunks s file n = messages_under (key_of s file) file n

-- the messages of all chunks, in order
abbrev pub opened_file : (s : Secret) (file : List ℕ) → List ℕ
opened_file s file = plaintext_under (key_of s file) file

-- the length of a sealed file: a header, and fewer than 2^32 chunks that each hold a tag
pub record IsSealedLen (n : ℕ) : Type 0 where
  pub header : header_len ≤ n
  pub tag : sealed_chunk_len * last_piece sealed_chunk_len (n - header_len) + tag_len ≤ n - header_len
  pub few : last_piece sealed_chunk_len (n - header_len) < 2 ^ 32 - 1

-- sealing the file made these bytes as chunk i, the last or not
pub record IsMade (k : ChunkKey) (file : List ℕ) (i : ℕ) (is_last : Bool) (sealed : List ℕ) : Type 0 where
  pub in_range : i ≤ last_piece chunk_len (length file)
  pub kind : is_last ≡ (i == last_piece chunk_len (length file))
  pub same : sealed ≡ sealed_chunk_of k file i

-- chunk i of another file has the tag defined for its number and for whether it is the last, but sealing the file made another
-- chunk there or none
pub record IsForged (k : ChunkKey) (file other : List ℕ) (i : ℕ) : Type 0 where
  pub in_range : i ≤ last_chunk other
  pub tag : HasTag k i (i == last_chunk other) (chunk_of other i)
  pub new : ¬ IsMade k file i (i == last_chunk other) (chunk_of other i)
