-- The reason for each error of sealing and opening files.
use Rattle.std.specs.Prelude.{◌≡◌, ◌≢◌, ℕ, Bool, true, false, ◌-◌, ◌^◌, ◌<◌, ◌≤◌, ◌⊎◌, ⊤, List, length, take, drop, codes, slice_index, ◌==◌}
use Rattle.aead_ciphers.specs.Gcm.{tag_len}
use Rattle.sealed_file.specs.declared.error.FileError.{FileError}
use Rattle.sealed_file.specs.declared.error.FileError.TheVariants.{AnotherMagic, AnotherVersion, WrongKey, EndsEarly, TrailingBytes, Refused, TooLong, OutOfMemory, Io}
use Rattle.sealed_file.specs.Derivation.{commitment}
use Rattle.sealed_file.specs.Format.{ChunkKey, Secret, chunk_len, last_piece, magic_and_version}
use Rattle.sealed_file.specs.Opening.{HasTag, HasTagUnder, HasHeader, AreRight, chunk_of, header_of, key_of, last_chunk, header_len}

-- why a file is not sealed
abbrev pub SealRefuses : List ℕ → FileError → Type 0
SealRefuses file TooLong = 2 ^ 32 - 1 ≤ last_piece chunk_len (length file)
SealRefuses file (Io error) = ⊤
SealRefuses file error = ⊥

-- the bytes begin with the magic and this version
pub record IsVersion (version : ℕ) (header : List ℕ) : Type 0 where
  pub front : take 9 header ≡ magic_and_version version

-- a whole header of the version whose commitment is not that of this key for its random bytes
pub record IsOfAnotherKey (s : Secret) (header : List ℕ) : Type 0 where
  pub version : IsVersion s.version header
  pub size : length header ≡ header_len
  pub other : drop 28 header ≢ commitment s.key (take 12 (drop 9 header))

-- why bytes don't begin with the magic and this version
abbrev pub VersionRefuses : (version : ℕ) (header : List ℕ) → FileError → Type 0
VersionRefuses version header EndsEarly = length header < 9
VersionRefuses version header AnotherMagic = (9 ≤ length header) × (take 8 header ≢ codes "SEALFILE")
VersionRefuses version header (AnotherVersion found) = (9 ≤ length header) × (take 8 header ≡ codes "SEALFILE")
    × (slice_index header 8 ≡ found) × (found ≢ version)
VersionRefuses version header error = ⊥

-- why the bytes are not a header under this key
abbrev pub HeaderRefuses : (s : Secret) (header : List ℕ) → FileError → Type 0
HeaderRefuses s header EndsEarly = (length header < 9) ⊎ (IsVersion s.version header × (length header < header_len))
HeaderRefuses s header WrongKey = IsOfAnotherKey s header
HeaderRefuses s header error = VersionRefuses s.version header error

-- why a sealed chunk does not open: the tag of the other kind of chunk shows that the file was cut after the chunk, or goes on
-- after it
abbrev pub ChunkRefuses : (k : ChunkKey) (number : ℕ) (is_last : Bool) (sealed : List ℕ) → FileError → Type 0
ChunkRefuses k number is_last sealed EndsEarly =
    (length sealed < tag_len) ⊎ ((is_last ≡ true) × HasTag k number false sealed)
ChunkRefuses k number is_last sealed TrailingBytes = (is_last ≡ false) × HasTag k number true sealed
ChunkRefuses k number is_last sealed (Refused at) =
    (at ≡ number) × (tag_len ≤ length sealed) × ¬ HasTag k number true sealed × ¬ HasTag k number false sealed
ChunkRefuses k number is_last sealed error = ⊥

-- chunk i of a sealed file doesn't have its tag under this key, for which the error is the reason
abbrev pub RefusesChunk : (k : ChunkKey) (file : List ℕ) (i : ℕ) → FileError → Type 0
RefusesChunk k file i error =
    (¬ HasTagUnder k file i) × ChunkRefuses k i (i == last_chunk file) (chunk_of file i) error

-- the header and the first n chunks are right, and the next chunk is not
pub record RefusesAt (s : Secret) (file : List ℕ) (error : FileError) (n : ℕ) : Type 0 where
  pub front : HasHeader s (header_of file)
  pub right : AreRight s file n
  pub in_range : n ≤ last_chunk file
  pub wrong : RefusesChunk (key_of s file) file n error

-- why a file does not open
abbrev pub OpenRefuses : (s : Secret) (file : List ℕ) → FileError → Type 0
OpenRefuses s file TooLong =
    HasHeader s (header_of file) × AreRight s file (2 ^ 32 - 1) × (2 ^ 32 - 1 ≤ last_chunk file)
OpenRefuses s file (Io error) = ⊤
OpenRefuses s file error = HeaderRefuses s (header_of file) error ⊎ ((n : ℕ) × RefusesAt s file error n)

-- why one chunk does not open
abbrev pub ChunkAtRefuses : (s : Secret) (header : List ℕ) (number : ℕ) (is_last : Bool) (sealed : List ℕ) → FileError → Type 0
ChunkAtRefuses s header number is_last sealed error = HeaderRefuses s (header_of header) error
    ⊎ (HasHeader s (header_of header) × (¬ HasTag (key_of s header) number is_last sealed)
    × ChunkRefuses (key_of s header) number is_last sealed error)

-- why a call over slices fails: it needed memory, or it rejects its input, but never with `Io`
abbrev pub FailsInMemory : (lacks_room : Type 0) (Refuses : FileError → Type 0) → FileError → Type 0
FailsInMemory lacks_room Refuses OutOfMemory = lacks_room
FailsInMemory lacks_room Refuses (Io error) = ⊥
FailsInMemory lacks_room Refuses error = Refuses error
