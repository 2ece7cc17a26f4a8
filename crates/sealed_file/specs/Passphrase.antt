-- Files that are sealed under a passphrase: version 3, as SEALED_FILE.md defines it.
use Rattle.std.specs.Prelude.{◌≡◌, ℕ, ◌<◌, ◌≤◌, ◌⊎◌, ⊤, List, ◌++◌, length, take, drop}
use Rattle.std.specs.Int.{from_be_bytes, to_be_bytes, w32}
use Rattle.key_derivation.specs.Hash.{sha_256}
use Rattle.key_derivation.specs.Pbkdf2.{pbkdf2}
use Rattle.sealed_file.specs
use Rattle.sealed_file.specs.Opening.{header_len}
use specs.declared.error.FileError.{FileError}
use specs.declared.error.FileError.TheVariants.{EndsEarly, Iterations, Io}
use specs.Format.{ChunkKey, Secret, fresh_key, secret_of, with_header}
use specs.Opening.{IsSealed, header_of, opened_file}
use specs.Refusals.{IsVersion, OpenRefuses, VersionRefuses}

-- the key of 32 bytes that a passphrase has for a file: PBKDF2 with HMAC-SHA-256 (RFC 8018 section 5.2)
abbrev pub passphrase_key : (passphrase random : List ℕ) (iterations : ℕ) → List ℕ
passphrase_key passphrase random iterations = pbkdf2 sha_256 passphrase random iterations 32

-- what a file is sealed under: the key of a passphrase for its random bytes, and the AAD, which begins with the iterations
abbrev pub locked : (passphrase aad random : List ℕ) (iterations : ℕ) → Secret
locked passphrase aad random iterations =
    secret_of 3 (passphrase_key passphrase random iterations) (to_be_bytes w32 iterations ++ aad)

-- the key of the chunks of a file of version 3, whose header ends with the iterations, after what version 2 has
abbrev pub fresh_passphrase_key : (passphrase aad random : List ℕ) (iterations : ℕ) → ChunkKey
fresh_passphrase_key passphrase aad random iterations =
    let k = fresh_key (locked passphrase aad random iterations) random in
    with_header (k.header ++ to_be_bytes w32 iterations) k

-- the random bytes in a file's header
abbrev pub random_of : List ℕ → List ℕ
random_of file = take 19 (drop 9 file)

-- the iterations in the header of a file of version 3, as its four bytes and as the number
abbrev pub iteration_bytes : List ℕ → List ℕ
iteration_bytes file = take 4 (drop header_len file)

abbrev pub iterations_of : List ℕ → ℕ
iterations_of file = from_be_bytes w32 (iteration_bytes file)

-- a file of version 3 without its iterations
abbrev pub core_of : List ℕ → List ℕ
core_of file = header_of file ++ drop 64 file

-- what a file of version 3 without its iterations is sealed under, if it is sealed under this passphrase
abbrev pub unlocked : (passphrase aad file : List ℕ) → Secret
unlocked passphrase aad file =
    secret_of 3 (passphrase_key passphrase (random_of file) (iterations_of file)) (iteration_bytes file ++ aad)

-- the iterations that a file may have
pub record AreAllowed (iterations : ℕ) : Type 0 where
  pub some : 0 < iterations
  pub few : iterations ≤ 10000000

-- a file that opens under a passphrase
pub record OpensBy (passphrase aad file : List ℕ) : Type 0 where
  pub whole : 64 ≤ length file
  pub allowed : AreAllowed (iterations_of file)
  pub sealed : IsSealed (unlocked passphrase aad file) (core_of file)

-- the file that it opens to
abbrev pub opened_by : (passphrase aad file : List ℕ) → List ℕ
opened_by passphrase aad file = opened_file (unlocked passphrase aad file) (core_of file)

-- the header of a file of version 3 is whole, and its iterations are allowed
pub record HasIterations (file : List ℕ) : Type 0 where
  pub whole : 64 ≤ length file
  pub allowed : AreAllowed (iterations_of file)

-- why bytes don't begin as a file of version 3
abbrev pub FrontRefuses : (file : List ℕ) → FileError → Type 0
FrontRefuses file EndsEarly = (length file < 9) ⊎ (IsVersion 3 file × (length file < 64))
FrontRefuses file (Iterations n) =
    IsVersion 3 file × (64 ≤ length file) × (n ≡ iterations_of file) × ¬ AreAllowed (iterations_of file)
FrontRefuses file error = VersionRefuses 3 file error

-- why a file doesn't open under a passphrase: the key is compared and chunks are opened only with iterations that are allowed
abbrev pub PassphraseRefuses : (passphrase aad file : List ℕ) → FileError → Type 0
PassphraseRefuses passphrase aad file (Io error) = ⊤
PassphraseRefuses passphrase aad file error = FrontRefuses file error
    ⊎ (HasIterations file × OpenRefuses (unlocked passphrase aad file) (core_of file) error)
